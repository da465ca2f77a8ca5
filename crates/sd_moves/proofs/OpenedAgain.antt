-- A closed complex opens again from devices that stand for its state: lent to whoever reopens.
use Rattle.std.proofs.Common.{◌≡◌, inl, ⊎_elim, ℕ, ◌+◌, ◌≤◌, Bool, true, false, ◌&&◌, ◌||◌, cond, eqb, List, [], ◌∷◌, refl, sym, ap, ap₂, ◌∙◌, subst, eqb-true}
use Rattle.std.specs.List.{list_any}
use Rattle.std.proofs.lemmas.Bool.{cases_Bool}
use Rattle.sd_base.specs.declared.ids.TxnId.{TxnId}
use Rattle.sd_base.specs.declared.ids.Rid.{Rid}
use Rattle.sd_base.specs.declared.place.Status.TheVariants as S
use Rattle.sd_logrec.specs.View.{Rec}
use Rattle.sd_rig.specs.Devices as rig
use Rattle.sd_model.specs.Changes.{Reopened, commit_all}
use Rattle.sd_model.specs.Finishing.{picked}
use Rattle.sd_model.specs.Kept.{Kept}
use Rattle.sd_model.specs.Listed.{Listed}
use Rattle.sd_model.specs.Marks.{Marked}
use Rattle.sd_model.specs.Lives.{LivesAreSound}
use Rattle.sd_model.specs.Recoverers.{Recoverers}
use Rattle.sd_model.specs.Reopening.{Finds, left_part}
use Rattle.sd_model.specs.State.{Part, State}
use Rattle.sd_model.specs.Tables.{Contents}
use Rattle.sd_model.specs.declared.act.Claim.{Claim}
use Rattle.sd_model.specs.declared.act.Inst.{Inst}
use Rattle.sd_model.specs.declared.act.Life.{Life}
use Rattle.sd_model.proofs.PlacedRecovery.{commit_all-inst}
use Rattle.sd_model.proofs.Reopens.{closed-may, reopened-reopens, reopened-stands}
use Rattle.sd_chain.specs.Bytes.{stable}
use Rattle.sd_chain.specs.Checks.{open_in}
use Rattle.sd_chain.specs.Fates.{Fate, fate, fate_in}
use Rattle.sd_chain.specs.Storage.{Recovered, Storage, opens}
use Rattle.sd_chain.specs.Losers.{OwnLogs}
use Rattle.sd_chain.specs.Order.{of_txn, speaks}
use Rattle.sd_chain.specs.Records.{Each, at, home}
use Rattle.sd_chain.specs.Undoing.{Member}
use Rattle.sd_chain.proofs.Fates.{committed-fate, fate-open, open-fate}
use Rattle.sd_chain.proofs.Lists.{Each-weaker}
use Rattle.sd_chain.proofs.Members.{is-open_in, open_in-is}
use Rattle.sd_chain.proofs.Soundly.{sound-opens}
use Rattle.sd_chain.proofs.Whose.{both, own_is}
use Rattle.sd_state.specs.Images.{IsEpochOf, Stands, kept_epoch}
use Rattle.sd_moves.specs.Opening.{ClosedOpensAgain, OpensTo, has_open, is_any, is_down_in, is_left, is_loser, opened_again, some_lost}
use Rattle.sd_state.specs.Values.{Pending, is_committed, rid_of}
use Rattle.sd_moves.proofs.OpenedImage.{left-open}
use Rattle.sd_state.proofs.RecoverDone.{values-standing}

-- what each element gives that passes, one that passes gives
pub any-gives : {A : Type 0} (P : Type 0) (test : A → Bool) (xs : List A) → Each (λ x. test x ≡ true → P) xs
    → list_any test xs ≡ true → P
any-gives P test [] each some = absurd (cc)
any-gives P test (x ∷ xs) each some = ⊎_elim
    (λ is. each.0 is)
    (λ off. any-gives P test xs each.1 (sym (ap (λ (b : Bool). b || list_any test xs) off) ∙ some))
    (cases_Bool (test x))

-- the record at this place
rid-is : (r : Rid) (x : Rec) → at r.page r.slot x ≡ true → rid_of x ≡ r
rid-is r x is =
    let b = both (eqb x.page r.page) (eqb x.slot r.slot) is in
    ap₂ (λ (p s : ℕ). made p s) (eqb-true x.page r.page b.0) (eqb-true x.slot r.slot b.1)
  where
    made : ℕ → ℕ → Rid
    made p s = record { page = p; slot = s }

pub some-any : (t : TxnId) (ts : List TxnId) → Member t ts → is_any ts ≡ true
some-any t [] m = absurd m
some-any t (u ∷ us) m = refl

-- ---- parts as they are left

left-life : (b : Bool) (holds : Rid → Bool) (p : Part) → (left_part b holds p).life ≡ cond {A = Life} b Life.Retained Life.Gone
left-life true holds p = refl
left-life false holds p = refl

left-claims : (b : Bool) (has : Rid → Bool) (p : Part) (r : Rid)
    → (left_part b (λ q. b && has q) p).claims r ≡ cond {A = Claim} (b && has r) Claim.Excl Claim.Free
left-claims true has p r = refl
left-claims false has p r = refl

left-marks : (b : Bool) (holds : Rid → Bool) (p : Part) → (left_part b holds p).marks ≡ []
left-marks true holds p = refl
left-marks false holds p = refl

-- ---- whom a log leaves open

module _ (img : Storage) (own : OwnLogs img) where
  -- it is of the log's instance
  pub of-log : (i : ℕ) (t : TxnId) → Member t (open_in (img.logs i)) → home t ≡ i
  of-log i t member = any-gives (home t ≡ i) (of_txn t) (img.logs i)
      (Each-weaker (λ x. speaks x.kind ≡ true → home x.txn ≡ i) (λ x. of_txn t x ≡ true → home t ≡ i)
      (λ x h is. subst (λ (u : TxnId). home u ≡ i) (own_is t x is) (h (both (speaks x.kind) _ is).0)) (img.logs i) (own.own i))
      (open_in-is t (img.logs i) member).1

  none-left : (i : ℕ) (ts : List TxnId) → open_in (img.logs i) ≡ ts → ((t : TxnId) → t.inst ≡ i → is_loser img t ≡ true → ⊥)
      → (is_any ts || some_lost img 1024) ≡ some_lost img 1024
  none-left i [] is none = refl
  none-left i (t ∷ ts) is none =
      let member : Member t (open_in (img.logs i)) = subst (Member t) (sym is) (inl refl) in
      let there = of-log i t member in
      let left = open_in-is t (img.logs i) member in
      absurd (none t there (ap is_left (subst (λ (k : ℕ). fate t (img.logs k) ≡ Fate.Open) (sym there)
      (open-fate t (img.logs i) left.0 left.1))))

  -- an instance without any is down exactly where a page is lost
  pub down-lost : (i : ℕ) → ((t : TxnId) → t.inst ≡ i → is_loser img t ≡ true → ⊥) → is_down_in img i ≡ some_lost img 1024
  down-lost i none = none-left i (open_in (img.logs i)) refl none

module _ (devices : rig.DeviceImages) (m : State) (placed : LivesAreSound m) (listed : Listed m) (shut : (i : ℕ) → (m.inst i).status ≡ S.Closed)
    (s : Stands m Pending.Idle devices) where
  abbrev img : Storage
  img = stable devices

  abbrev kept : TxnId → Bool
  kept = is_committed img.logs

  abbrev then : State
  then = opened_again devices m

  own : OwnLogs img
  own = (sound-opens devices s.sound).1

  alive : (t : TxnId) → is_loser img t ≡ true → fate_in img t ≡ Fate.Open
  alive t stays = left-open (fate_in img t) stays

  -- the Commit of one that is left open isn't kept
  uncommitted : (t : TxnId) → fate_in img t ≡ Fate.Open → kept t ≡ false
  uncommitted t is = ⊎_elim
      (λ some. let e = sym is ∙ committed-fate t (img.logs (home t)) some in absurd (cc))
      (λ none. none)
      (cases_Bool (kept t))

  holds : (t : TxnId) (r : Rid) → is_loser img t ≡ true → has_open img t r ≡ true → (m.part t).claims r ≡ Claim.Excl
  holds t r stays has = any-gives ((m.part t).claims r ≡ Claim.Excl) (at r.page r.slot) (opens img t)
      (Each-weaker (λ x. (m.part t).claims (rid_of x) ≡ Claim.Excl)
      (λ x. at r.page r.slot x ≡ true → (m.part t).claims r ≡ Claim.Excl)
      (λ x e is. sym (ap (m.part t).claims (rid-is r x is)) ∙ e) (opens img t) (s.claimed t (alive t stays)).claims)
      (both (is_loser img t) (list_any (at r.page r.slot) (opens img t)) has).1

  finds : Finds kept (is_loser img) (has_open img) (some_lost img 1024) (is_down_in img) m
  finds = record {
    there = λ t stays. (s.claimed t (alive t stays)).there;
    uncommitted = λ t stays. uncommitted t (alive t stays);
    claims = holds;
    down = λ t stays. let left = fate-open t (img.logs (home t)) (alive t stays) in
        ap (λ (b : Bool). b || some_lost img 1024)
        (some-any t (open_in (img.logs (home t))) (is-open_in t (img.logs (home t)) left.0 left.1));
    others = down-lost img own;
  }

  reopens : Reopened m then
  reopens = reopened-reopens (picked m kept) (is_loser img) (has_open img) (some_lost img 1024) (is_down_in img) m
      (closed-may kept m listed (is_loser img) (has_open img) (some_lost img 1024) (is_down_in img) placed shut finds)

  as-before : (i epoch : ℕ) (x : Inst) → x ≡ m.inst i → IsEpochOf m Pending.Idle i epoch
      → (x.epoch ≤ epoch) × (epoch ≤ x.epoch + x.failed + 0)
  as-before i epoch x is e = subst (λ (y : Inst). (y.epoch ≤ epoch) × (epoch ≤ y.epoch + y.failed + 0)) (sym is) (e.low, e.high)

  opens-to : Kept then → LivesAreSound then → Listed then → Marked then → Recoverers then → OpensTo devices then
  opens-to k p l marks r = record {
    table = λ page slot. subst (Recovered img page slot)
        (values-standing m img.logs page slot
        ∙ sym (ap (λ (c : Contents). c (record { page = page; slot = slot }))
        (reopened-stands kept m listed (is_loser img) (has_open img) (is_down_in img))))
        (s.recovered page slot);
    lives = λ t. left-life (is_loser img t) (has_open img t) ((commit_all (picked m kept) m).part t);
    claims = λ t q. left-claims (is_loser img t) (λ c. list_any (at c.page c.slot) (opens img t))
        ((commit_all (picked m kept) m).part t) q;
    marks = λ t. left-marks (is_loser img t) (has_open img t) ((commit_all (picked m kept) m).part t);
    statuses = λ i low high. refl;
    epochs = λ i low high.
        let e = as-before i (kept_epoch (devices i)) ((commit_all (picked m kept) m).inst i)
        (ap (λ (f : ℕ → Inst). f i) (commit_all-inst (picked m kept) m)) (s.epochs i low high) in
        record { low = e.0; high = e.1 };
    kept = k;
    placed = p;
    listed = l;
    marked = marks;
    recoverers = r;
  }

pub closed-opens-again : ClosedOpensAgain
closed-opens-again devices m placed listed shut s =
    (reopens devices m placed listed shut s, opens-to devices m placed listed shut s)

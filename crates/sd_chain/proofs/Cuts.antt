-- Laws over each set of kept tails.
use Rattle.std.proofs.Common.{◌≡◌, ◌≢◌, ⊎_elim, ℕ, zero, suc, ◌<◌, Bool, true, false, cond, ◌&&◌, List, [], ◌∷◌, ◌++◌, refl, sym, ap, ap₂, ◌∙◌, subst, append_assoc, append-nil}
use Rattle.std.specs.Prelude.{filter}
use Rattle.std.proofs.lemmas.Bool.{cases_Bool, cases_eq}
use Rattle.sd_logrec.specs.View.{Rec, Kind}
use Rattle.sd_base.specs.declared.ids.TxnId.{TxnId}
use Rattle.sd_base.specs.Ids.{same_txn}
use Rattle.sd_chain.specs.Records.{Val, of_page, at, changes, ends, Each, home, stack, step, stack_from, moved, rest, IsOpen}
use Rattle.sd_logrec.specs.View.Kind.{Update, Clr, Commit, End, Plain}
use Rattle.sd_page.specs.Page.{Page}
use Rattle.sd_chain.specs.Pages.{replay, FitsKind}
use Rattle.sd_chain.specs.Storage.{Open, Recovered, Sound, Storage, all_of, chain, newest, opens, sorted}
use Rattle.sd_chain.specs.Changes.{Appended, CanUpdate, CanUndo, Written}
use Rattle.sd_chain.proofs.Lists.{Each-append, Each-front, Each-back, filter-skip, cond_both}
use Rattle.sd_chain.proofs.Newest
use Rattle.sd_chain.proofs.Newest.{at_is, at_from, of_rid_is, of_rid_from, pages-other}
use mathlib.Core.Path.{fun_ext}
use Rattle.std.proofs.lemmas.List.Elements.{filter-append}
use Rattle.sd_chain.specs.Cuts.{Logs, cut, whole, EachSound, Gained, Pops, IsTopsPage, IsLone, CanUpdateWhole, CanUndoWhole, PutPage}
use Rattle.sd_chain.proofs.Stacks.{stack_from-append, step-own, step-other}
use Rattle.sd_chain.proofs.Update
use Rattle.sd_chain.proofs.Undo
use Rattle.sd_chain.proofs.Seal
use Rattle.sd_base.proofs.SameIds.{cases_txn}

-- the chain is read off each log's records of the page
filter-all_of : (p : ℕ) (logs logs' : ℕ → List Rec) → ((j : ℕ) → filter (of_page p) (logs' j) ≡ filter (of_page p) (logs j))
    → (n : ℕ) → filter (of_page p) (all_of logs' n) ≡ filter (of_page p) (all_of logs n)
unfolding all_of
filter-all_of p logs logs' e zero = refl
filter-all_of p logs logs' e (suc n) =
    filter-append (of_page p) (logs' n) (all_of logs' n) ∙ ap (λ (l : List Rec). l ++ filter (of_page p) (all_of logs' n)) (e n)
    ∙ ap (λ (l : List Rec). filter (of_page p) (logs n) ++ l) (filter-all_of p logs logs' e n)
    ∙ sym (filter-append (of_page p) (logs n) (all_of logs n))

pub newest-by_page : (p : ℕ) (old new : Storage) → ((j : ℕ) → filter (of_page p) (new.logs j) ≡ filter (of_page p) (old.logs j))
    → new.disk p ≡ old.disk p → newest new p ≡ newest old p
unfolding newest chain
newest-by_page p old new e d =
    ap (λ (d : Page). replay d.lsn d (chain new p)) d
    ∙ ap (λ (l : List Rec). replay (old.disk p).lsn (old.disk p) (sorted l)) (filter-all_of p old.logs new.logs e 9)

pub filter_none : (p : ℕ) (xs : List Rec) → Each (λ x. of_page p x ≡ false) xs → filter (of_page p) xs ≡ []
filter_none p [] a = refl
filter_none p (x ∷ xs) a = filter-skip (of_page p) x xs a.0 ∙ filter_none p xs a.1

-- the tails that are dropped have none of the page
pub newest-cut : (keeps : ℕ → Bool) (i p : ℕ) (logs : Logs) → keeps i ≡ true → IsLone logs i p
    → newest (cut keeps logs) p ≡ newest (whole logs) p
newest-cut keeps i p logs kept lone = newest-by_page p (whole logs) (cut keeps logs) each refl
  where
    each : (j : ℕ) → filter (of_page p) (logs.base j ++ cond (keeps j) (logs.tail j) []) ≡ filter (of_page p)
        (logs.base j ++ logs.tail j)
    each j = ⊎_elim
        (λ e. ap (λ (b : Bool). filter (of_page p) (logs.base j ++ cond b (logs.tail j) [])) (ap keeps e ∙ kept))
        (λ ne. filter-append (of_page p) (logs.base j) (cond (keeps j) (logs.tail j) [])
        ∙ ap (λ (l : List Rec). filter (of_page p) (logs.base j) ++ l)
        (cond_both (λ l. filter (of_page p) l ≡ filter (of_page p) (logs.tail j)) (keeps j) (logs.tail j) [] (λ b. refl)
        (λ b. sym (filter_none p (logs.tail j) (lone j ne)))) ∙ sym (filter-append (of_page p) (logs.base j) (logs.tail j)))
        (cases_eq j i)

-- records of other pages leave what is open of the page
rest_at : (p s : ℕ) (x : Rec) (stk : List Rec) → x.page ≢ p → IsTopsPage x stk → filter (at p s) (rest stk) ≡ filter (at p s) stk
rest_at p s x [] ne t = refl
rest_at p s x (top ∷ below) ne t =
    ⊎_elim (λ is. absurd (ne (t ∙ (at_is p s top is).0))) (λ is. sym (filter-skip (at p s) top below is))
    (cases_Bool (at p s top))

off_page : (p s : ℕ) (x : Rec) → x.page ≢ p → at p s x ≡ false
off_page p s x ne = ⊎_elim (λ is. absurd (ne (at_is p s x is).0)) (λ is. is) (cases_Bool (at p s x))

moved_at : (p s : ℕ) (k : Kind) (x : Rec) (stk : List Rec) → (changes k ≡ true → x.page ≢ p) → (k ≡ Clr → IsTopsPage x stk)
    → filter (at p s) (moved k x stk) ≡ filter (at p s) stk
moved_at p s Update x stk ne t = filter-skip (at p s) x stk (off_page p s x (ne refl))
moved_at p s Clr x stk ne t = rest_at p s x stk (ne refl) (t refl)
moved_at p s Commit x stk ne t = refl
moved_at p s End x stk ne t = refl
moved_at p s Plain x stk ne t = refl

not_page : (p : ℕ) (x : Rec) → of_page p x ≡ false → changes x.kind ≡ true → x.page ≢ p
not_page p x e k f = let c = Newest.of_page_from p x k f in absurd (cc)

stack_from-at : (p s : ℕ) (t : TxnId) (stk xs : List Rec) → Each (λ x. of_page p x ≡ false) xs → Pops t stk xs
    → filter (at p s) (stack_from t stk xs) ≡ filter (at p s) stk
stack_from-at p s t stk [] a b = refl
stack_from-at p s t stk (x ∷ xs) a b =
    stack_from-at p s t (step t stk x) xs a.1 b.1
    ∙ ⊎_elim (λ e. ap (filter (at p s)) (step-own t stk x e) ∙ moved_at p s x.kind x stk (not_page p x a.0) (b.0 e))
    (λ ne. ap (filter (at p s)) (step-other t stk x ne)) (cases_txn x.txn t)

stack-at : (p s : ℕ) (t : TxnId) (base tail : List Rec) → Each (λ x. of_page p x ≡ false) tail → Pops t (stack t base) tail
    → filter (at p s) (stack t (base ++ tail)) ≡ filter (at p s) (stack t base)
stack-at p s t base tail a b = ap (filter (at p s)) (stack_from-append t [] base tail)
    ∙ stack_from-at p s t (stack t base) tail a b

module _ (i : ℕ) (y : Rec) (old new : Logs) (g : Gained i y old new) (keeps : ℕ → Bool) where
  -- with the tail of log i, the image has one more record
  pub cut-appended : keeps i ≡ true → Appended i y (cut keeps old) (cut keeps new)
  cut-appended kept = record {
    inside = g.inside;
    here = ap (λ (b : Bool). new.base i ++ cond b (new.tail i) []) kept ∙ ap₂ (λ (a b : List Rec). a ++ b) (g.base i) g.here
        ∙ sym (append_assoc (old.base i) (old.tail i) (y ∷ []))
        ∙ ap (λ (b : Bool). (old.base i ++ cond b (old.tail i) []) ++ y ∷ []) (sym kept);
    others = λ j ne. ap₂ (λ (a b : List Rec). a ++ cond (keeps j) b []) (g.base j) (g.others j ne);
    disk = g.disk;
  }

  -- without, it is the same
  pub cut-same : keeps i ≡ false → cut keeps new ≡ cut keeps old
  cut-same dropped = ap₂ (λ (l : ℕ → List Rec) (d : ℕ → Page). record_of l d) (fun_ext each) (fun_ext g.disk)
    where
      record_of : (ℕ → List Rec) → (ℕ → Page) → Storage
      record_of l d = record { logs = l; disk = d }

      each : (j : ℕ) → new.base j ++ cond (keeps j) (new.tail j) [] ≡ old.base j ++ cond (keeps j) (old.tail j) []
      each j = ⊎_elim
          (λ e. let no_tail : keeps j ≡ false = ap keeps e ∙ dropped in
          ap (λ (b : Bool). new.base j ++ cond b (new.tail j) []) no_tail ∙ ap (λ (l : List Rec). l ++ []) (g.base j)
          ∙ ap (λ (b : Bool). old.base j ++ cond b (old.tail j) []) (sym no_tail))
          (λ ne. ap₂ (λ (a b : List Rec). a ++ cond (keeps j) b []) (g.base j) (g.others j ne))
          (cases_eq j i)

  -- what holds of each image before holds after, where a record may be appended
  by_tail : (P : Storage → Type 0) → P (cut keeps old) → (keeps i ≡ true → P (cut keeps new)) → P (cut keeps new)
  by_tail P was f = ⊎_elim f (λ dropped. subst P (sym (cut-same dropped)) was) (cases_Bool (keeps i))

-- a cut keeps the front of each log
Each-cut : (P : Rec → Type 0) (keeps : ℕ → Bool) (logs : Logs) (j : ℕ) → Each P (logs.base j ++ logs.tail j)
    → Each P (logs.base j ++ cond (keeps j) (logs.tail j) [])
Each-cut P keeps logs j a =
    Each-append P (logs.base j) (cond (keeps j) (logs.tail j) []) (Each-front P (logs.base j) (logs.tail j) a)
    (cond_both (Each P) (keeps j) (logs.tail j) [] (λ b. Each-back P (logs.base j) (logs.tail j) a) (λ b. tt))

log-kept : (keeps : ℕ → Bool) (logs : Logs) (j : ℕ) → keeps j ≡ true → (cut keeps logs).logs j ≡ (whole logs).logs j
log-kept keeps logs j kept = ap (λ (b : Bool). logs.base j ++ cond b (logs.tail j) []) kept

log-dropped : (keeps : ℕ → Bool) (logs : Logs) (j : ℕ) → keeps j ≡ false → (cut keeps logs).logs j ≡ logs.base j
log-dropped keeps logs j dropped = ap (λ (b : Bool). logs.base j ++ cond b (logs.tail j) []) dropped ∙ append-nil (logs.base j)

-- an Update that may be appended to the whole may be appended to each image with the tail of its log
pub can-update : (keeps : ℕ → Bool) (i : ℕ) (logs : Logs) (y : Rec) → keeps i ≡ true → home y.txn ≡ i → CanUpdateWhole i logs y
    → CanUpdate (cut keeps logs) y
can-update keeps i logs y kept own can =
    let same = newest-cut keeps i y.page logs kept can.lone in
    record {
      kind = can.kind;
      runs = subst (IsOpen y.txn) (sym (log-kept keeps logs (home y.txn) (ap keeps own ∙ kept))) can.runs;
      above = record {
        records = λ j. Each-cut (λ x. of_page y.page x ≡ true → x.lsn < y.lsn) keeps logs j (can.above.records j);
        page = subst (λ (q : Page). q.lsn < y.lsn) (sym same) can.above.page;
      };
      fits = subst (λ (q : Page). FitsKind Update y q.slots) (sym same) can.fits;
      free = free;
    }
  where
    free : (t : TxnId) → t ≢ y.txn → Open (cut keeps logs) t → filter (at y.page y.slot) (opens (cut keeps logs) t) ≡ []
    free t ne o =
        let forced = Each-front (λ x. (ends x.kind && same_txn x.txn t) ≡ false) (logs.base (home t))
        (cond (keeps (home t)) (logs.tail (home t)) []) o in
        let none = can.free t ne forced in
        ⊎_elim
        (λ b. ap (λ (l : List Rec). filter (at y.page y.slot) (stack t l)) (log-kept keeps logs (home t) b) ∙ none)
        (λ b. ap (λ (l : List Rec). filter (at y.page y.slot) (stack t l)) (log-dropped keeps logs (home t) b)
        ∙ sym (stack-at y.page y.slot t (logs.base (home t)) (logs.tail (home t))
        (can.lone (home t) (λ e. let c = sym b ∙ ap keeps e ∙ kept in absurd (cc))) (can.pops t))
        ∙ none)
        (cases_Bool (keeps (home t)))

-- an Update keeps each image sound, and what recovery gives in each
pub update-each_sound : (i : ℕ) (y : Rec) (old new : Logs) → Gained i y old new → home y.txn ≡ i → CanUpdateWhole i old y
    → EachSound old → EachSound new
update-each_sound i y old new g own can sound keeps =
    by_tail i y old new g keeps Sound (sound keeps)
    (λ kept. Update.update-sound i y (cut keeps old) (cut keeps new) (cut-appended i y old new g keeps kept) own
    (can-update keeps i old y kept own can) (sound keeps))

pub update-each_recovered : (i : ℕ) (y : Rec) (old new : Logs) → Gained i y old new → home y.txn ≡ i → CanUpdateWhole i old y
    → EachSound old → (keeps : ℕ → Bool) (p s : ℕ) (v : Val) → Recovered (cut keeps old) p s v → Recovered (cut keeps new) p s v
update-each_recovered i y old new g own can sound keeps p s v r =
    by_tail i y old new g keeps (λ img. Recovered img p s v) r
    (λ kept. Update.update-recovered i y (cut keeps old) (cut keeps new) (cut-appended i y old new g keeps kept) own
    (can-update keeps i old y kept own can) (sound keeps) p s v r)

pub can-undo : (keeps : ℕ → Bool) (i : ℕ) (logs : Logs) (y top : Rec) (below : List Rec) → keeps i ≡ true → home y.txn ≡ i
    → CanUndoWhole i logs y top below → CanUndo (cut keeps logs) y top below
can-undo keeps i logs y top below kept own w =
    let same = newest-cut keeps i y.page logs kept w.lone in
    let log = log-kept keeps logs (home y.txn) (ap keeps own ∙ kept) in
    record {
      kind = w.can.kind;
      runs = subst (IsOpen y.txn) (sym log) w.can.runs;
      above = record {
        records = λ j. Each-cut (λ x. of_page y.page x ≡ true → x.lsn < y.lsn) keeps logs j (w.can.above.records j);
        page = subst (λ (q : Page). q.lsn < y.lsn) (sym same) w.can.above.page;
      };
      stack = ap (stack y.txn) log ∙ w.can.stack;
      page = w.can.page;
      slot = w.can.slot;
      value = w.can.value;
    }

pub undo-each_sound : (i : ℕ) (y top : Rec) (below : List Rec) (old new : Logs) → Gained i y old new → home y.txn ≡ i
    → CanUndoWhole i old y top below → EachSound old → EachSound new
undo-each_sound i y top below old new g own can sound keeps =
    by_tail i y old new g keeps Sound (sound keeps)
    (λ kept. Undo.undo-sound i y top below (cut keeps old) (cut keeps new) (cut-appended i y old new g keeps kept) own
    (can-undo keeps i old y top below kept own can) (sound keeps))

pub undo-each_recovered : (i : ℕ) (y top : Rec) (below : List Rec) (old new : Logs) → Gained i y old new → home y.txn ≡ i
    → CanUndoWhole i old y top below → EachSound old → (keeps : ℕ → Bool) (p s : ℕ) (v : Val) → Recovered (cut keeps old) p s v
    → Recovered (cut keeps new) p s v
undo-each_recovered i y top below old new g own can sound keeps p s v r =
    by_tail i y old new g keeps (λ img. Recovered img p s v) r
    (λ kept. Undo.undo-recovered i y top below (cut keeps old) (cut keeps new) (cut-appended i y old new g keeps kept) own
    (can-undo keeps i old y top below kept own can) (sound keeps) p s v r)

pub seal-each_sound : (i : ℕ) (y : Rec) (old new : Logs) → Gained i y old new → changes y.kind ≡ false → EachSound old
    → EachSound new
seal-each_sound i y old new g no_page sound keeps =
    by_tail i y old new g keeps Sound (sound keeps)
    (λ kept. Seal.seal-sound i y (cut keeps old) (cut keeps new) (cut-appended i y old new g keeps kept) no_page
    (sound keeps))

-- a page write
pub put-written : (p : ℕ) (old new : Logs) → PutPage p old new → (keeps : ℕ → Bool) → Written p (cut keeps old) (cut keeps new)
put-written p old new w keeps = record {
  logs = λ j. ap₂ (λ (a b : List Rec). a ++ cond (keeps j) b []) (w.base j) (w.tail j);
  here = w.here ∙ sym (newest-by_page p (whole old) (cut keeps old) each refl);
  others = w.others;
}
  where
    each : (j : ℕ) → filter (of_page p) (old.base j ++ cond (keeps j) (old.tail j) []) ≡ filter (of_page p)
        (old.base j ++ old.tail j)
    each j = filter-append (of_page p) (old.base j) (cond (keeps j) (old.tail j) [])
        ∙ ap (λ (l : List Rec). filter (of_page p) (old.base j) ++ l)
        (cond_both (λ l. filter (of_page p) l ≡ filter (of_page p) (old.tail j)) (keeps j) (old.tail j) [] (λ b. refl)
        (λ b. sym (filter_none p (old.tail j) (w.forced j)))) ∙ sym (filter-append (of_page p) (old.base j) (old.tail j))

-- what is open is read off the log alone
opens-kept : (keeps : ℕ → Bool) (i : ℕ) (logs : Logs) (t : TxnId) → keeps i ≡ true → home t ≡ i
    → opens (cut keeps logs) t ≡ opens (whole logs) t
opens-kept keeps i logs t kept own = ap (stack t) (log-kept keeps logs (home t) (ap keeps own ∙ kept))

-- A Commit: where the tail is left, a record that the transaction has changed has its last value; all else stays.
pub commit-each_recovered : (i : ℕ) (y : Rec) (old new : Logs) → Gained i y old new → home y.txn ≡ i → changes y.kind ≡ false
    → ends y.kind ≡ true → Open (whole old) y.txn → EachSound old → (keeps : ℕ → Bool) → keeps i ≡ true
    → (p s : ℕ) (top : Rec) (below : List Rec) → filter (at p s) (opens (whole old) y.txn) ≡ top ∷ below
    → Recovered (cut keeps new) p s top.after
commit-each_recovered i y old new g own no_page it_ends runs sound keeps kept p s top below is =
    Seal.commit-recovered i y (cut keeps old) (cut keeps new) (cut-appended i y old new g keeps kept) no_page own it_ends
    (sound keeps) (subst (IsOpen y.txn) (sym (log-kept keeps old (home y.txn) (ap keeps own ∙ kept))) runs) p s top below
    (ap (filter (at p s)) (opens-kept keeps i old y.txn kept own) ∙ is)

pub ended-each_recovered : (i : ℕ) (y : Rec) (old new : Logs) → Gained i y old new → home y.txn ≡ i → changes y.kind ≡ false
    → ends y.kind ≡ true → (keeps : ℕ → Bool) (p s : ℕ) (v : Val) → filter (at p s) (opens (whole old) y.txn) ≡ []
    → Recovered (cut keeps old) p s v → Recovered (cut keeps new) p s v
ended-each_recovered i y old new g own no_page it_ends keeps p s v none r =
    by_tail i y old new g keeps (λ img. Recovered img p s v) r
    (λ kept. Seal.ended-recovered i y (cut keeps old) (cut keeps new)
    (cut-appended i y old new g keeps kept) no_page own it_ends p s v
    (ap (filter (at p s)) (opens-kept keeps i old y.txn kept own) ∙ none) r)

pub plain-each_recovered : (i : ℕ) (y : Rec) (old new : Logs) → Gained i y old new → changes y.kind ≡ false → ends y.kind ≡ false
    → (keeps : ℕ → Bool) (p s : ℕ) (v : Val) → Recovered (cut keeps old) p s v → Recovered (cut keeps new) p s v
plain-each_recovered i y old new g no_page no_end keeps p s v r =
    by_tail i y old new g keeps (λ img. Recovered img p s v) r
    (λ kept. Seal.plain-recovered i y (cut keeps old) (cut keeps new)
    (cut-appended i y old new g keeps kept) no_page no_end p s v r)

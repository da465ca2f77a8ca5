-- What an image leaves open, and which of its pages are lost, as a complex that is opened from it has it: for `assemble`.
use Rattle.std.proofs.Common.{◌≡◌, inl, ⊎_elim, ℕ, Bool, true, false, ◌&&◌, ◌||◌, cond, List, [], ◌∷◌, ◌++◌, map, filter, refl, sym, ap, ◌∙◌, subst, append-nil, eq-eqb}
use Rattle.std.specs.Prelude.{Option, None, Some}
use Rattle.std.specs.List.{list_any}
use Rattle.std.specs.Map.{lookup}
use Rattle.std.proofs.lemmas.Bool.{cases_Bool}
use Rattle.sd_base.proofs.Orders.{same-txn}
use Rattle.sd_base.specs.Ids.{same_txn}
use Rattle.sd_base.specs.declared.ids.TxnId.{TxnId}
use Rattle.sd_base.specs.declared.place.Status.TheVariants as S
use Rattle.sd_logrec.specs.View.{Rec}
use Rattle.sd_model.specs.State.{State, now}
use Rattle.sd_model.specs.declared.act.Claim.{Claim}
use Rattle.sd_model.specs.declared.act.Life.{Life}
use Rattle.sd_model.specs.Acts.{after}
use Rattle.sd_txn.specs.Transactions.{Transaction}
use Rattle.sd_txn.specs.declared.state.TxnState.{TxnState}
use Rattle.sd_chain.specs.Checks.{open_in}
use Rattle.sd_chain.specs.Fates.{Fate, fate, fate_in}
use Rattle.sd_chain.specs.Storage.{Storage, opens}
use Rattle.sd_chain.specs.Order.{of_txn}
use Rattle.sd_chain.specs.Records.{Each, IsOpen, at, home}
use Rattle.sd_chain.specs.Undoing.{Member}
use Rattle.sd_chain.proofs.Fates.{fate-open, open-fate}
use Rattle.sd_chain.proofs.Lists.{Each-weaker, filter-skip}
use Rattle.sd_chain.proofs.Members.{is-open_in}
use Rattle.sd_chain.proofs.Whose.{stack-none}
use Rattle.sd_moves.specs.Opening.{IsLeftIn, claim_in, is_any, is_left, life_in}
use Rattle.sd_state.specs.Tables.{NamesLife, RowIsLogged, StandsAs, tells_log}
use Rattle.sd_state.specs.Values.{Pending, is_committed, as_done, is_doubt, rid_of, values}

-- ---- whom it leaves open

pub left-open : (f : Fate) → is_left f ≡ true → f ≡ Fate.Open
left-open Fate.Unknown e = absurd (cc)
left-open Fate.Open e = refl
left-open Fate.Committed e = absurd (cc)
left-open Fate.Ended e = absurd (cc)

at-own : (x : Rec) → at x.page x.slot x ≡ true
at-own x = rw (eq-eqb x.page x.page refl, eq-eqb x.slot x.slot refl) refl

or-true : (a b : Bool) → b ≡ true → (a || b) ≡ true
or-true true b e = refl
or-true false b e = e

-- each record is found where it is
each-found : (xs : List Rec) → Each (λ x. list_any (at x.page x.slot) xs ≡ true) xs
each-found [] = tt
each-found (x ∷ xs) = (
  ap (λ (b : Bool). b || list_any (at x.page x.slot) xs) (at-own x),
  Each-weaker (λ y. list_any (at y.page y.slot) xs ≡ true) (λ y. list_any (at y.page y.slot) (x ∷ xs) ≡ true)
      (λ y e. or-true (at y.page y.slot x) (list_any (at y.page y.slot) xs) e) xs (each-found xs),
)

claim-of : (b : Bool) → b ≡ true → (c : Bool) → c ≡ true → cond {A = Claim} (b && c) Claim.Excl Claim.Free ≡ Claim.Excl
claim-of true e true e' = refl
claim-of true e false e' = absurd (cc)
claim-of false e c e' = absurd (cc)

-- who is left open has an exclusive claim on what it has open
pub claims-left : (img : Storage) (t : TxnId) → fate_in img t ≡ Fate.Open
    → Each (λ x. claim_in img t (rid_of x) ≡ Claim.Excl) (opens img t)
claims-left img t alive = Each-weaker (λ x. list_any (at x.page x.slot) (opens img t) ≡ true)
    (λ x. claim_in img t (rid_of x) ≡ Claim.Excl)
    (λ x e. claim-of (is_left (fate_in img t)) (ap is_left alive) (list_any (at x.page x.slot) (opens img t)) e) (opens img t)
    (each-found (opens img t))

-- and so has whoever has no end, of what it has open
pub claims-endless : (img : Storage) (t : TxnId) → IsOpen t (img.logs (home t))
    → Each (λ x. claim_in img t (rid_of x) ≡ Claim.Excl) (opens img t)
claims-endless img t alive = ⊎_elim
    (λ some. claims-left img t (open-fate t (img.logs (home t)) alive some))
    (λ none. subst (Each (λ x. claim_in img t (rid_of x) ≡ Claim.Excl)) (sym (stack-none t (img.logs (home t)) none)) tt)
    (cases_Bool (list_any (of_txn t) (img.logs (home t))))

-- whoever is left open is there
pub life-left : (img : Storage) (t : TxnId) → fate_in img t ≡ Fate.Open → life_in img t ≡ Life.Retained
life-left img t alive = ap (λ (f : Fate). cond {A = Life} (is_left f) Life.Retained Life.Gone) alive

-- ---- its table

-- nobody is in doubt
pub no-doubt : (b : Bool) (life : Life) → life ≡ cond {A = Life} b Life.Retained Life.Gone → is_doubt life ≡ false
no-doubt true life e = ap is_doubt e
no-doubt false life e = ap is_doubt e

none-doubt : (m : State) → ((t : TxnId) → is_doubt (m.part t).life ≡ false) → (ts : List TxnId)
    → filter (λ t. is_doubt (m.part t).life) ts ≡ []
none-doubt m none [] = refl
none-doubt m none (t ∷ ts) = filter-skip (λ u. is_doubt (m.part u).life) t ts (none t) ∙ none-doubt m none ts

-- so devices stand for the table of the committed ones, whatever their logs have
pub values-now : (m : State) (logs : ℕ → List Rec) (p s : ℕ) → ((t : TxnId) → is_doubt (m.part t).life ≡ false)
    → values m Pending.Idle logs p s ≡ now m (record { page = p; slot = s })
values-now m logs p s none =
    ap (λ (ts : List TxnId). after m.start (m.done ++ map (as_done m) (filter (is_committed logs) (ts ++ [])))
    (record { page = p; slot = s }))
    (none-doubt m none m.cuts)
    ∙ ap (λ ds. after m.start ds (record { page = p; slot = s })) (append-nil m.done)

-- ---- rows of tables

-- a row is named as its transaction is there
pub names-left : (o : Option Transaction) (t : TxnId) (log : List Rec) (life : Life) (f w : Fate)
    → life ≡ cond {A = Life} (is_left (fate t log)) Life.Retained Life.Gone → IsLeftIn o t log → NamesLife o life f w
names-left None t log life f w is row = ⊎_elim
    (λ left. absurd (row (left-open (fate t log) left)))
    (λ off. is ∙ ap (λ (b : Bool). cond {A = Life} b Life.Retained Life.Gone) off)
    (cases_Bool (is_left (fate t log)))
names-left (Some x) t log life f w is row = subst (λ (state : TxnState). StandsAs state life f w) (sym row.state)
    (inl (is ∙ ap (λ (k : Fate). cond {A = Life} (is_left k) Life.Retained Life.Gone) row.left))

-- it has what the log has
pub rows-left : (o : Option Transaction) (t : TxnId) (log : List Rec) → IsLeftIn o t log → RowIsLogged o t log
rows-left None t log row = row
rows-left (Some x) t log row = inl row.logged

-- a table has nobody where the log leaves nobody open
pub none-left : (log : List Rec) (rows : List (TxnId × Transaction)) → open_in log ≡ []
    → ((t : TxnId) → IsLeftIn (lookup (same_txn t) rows) t log) → rows ≡ []
none-left log [] none left = refl
none-left log (e ∷ es) none left =
    let row = subst (λ (b : Bool). IsLeftIn (cond b (Some e.1) (lookup (same_txn e.0) es)) e.0 log) (same-txn e.0) (left e.0) in
    let alive = fate-open e.0 log row.left in
    absurd (subst (Member e.0) none (is-open_in e.0 log alive.0 alive.1))

-- ---- statuses

-- where a table tells of the log, that leaves nobody open
pub told-none : (ts : List TxnId) (b : Bool) → tells_log (cond (is_any ts || b) S.Down S.Clean) ≡ true → ts ≡ []
told-none [] b e = refl
told-none (t ∷ ts) b e = absurd (cc)

pub not-up : (b : Bool) → cond b S.Down S.Clean ≡ S.Up → ⊥
not-up true e = absurd (cc)
not-up false e = absurd (cc)

pub not-closed : (b : Bool) → cond b S.Down S.Clean ≡ S.Closed → ⊥
not-closed true e = absurd (cc)
not-closed false e = absurd (cc)

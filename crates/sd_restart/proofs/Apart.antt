-- No record is open of two transactions of a sound image: for the lemmas of Found.antt, and for the goals of claims.rt.
use Rattle.std.proofs.Common.{◌≡◌, ◌≢◌, ⊎_elim, ℕ, Bool, true, false, ◌&&◌, ◌||◌, List, [], ◌∷◌, refl, sym, ap, ◌∙◌, subst}
use Rattle.std.specs.Prelude.{filter}
use Rattle.std.specs.List.{list_any}
use Rattle.sd_base.specs.declared.ids.TxnId.{TxnId}
use Rattle.sd_base.specs.declared.ids.Rid.{Rid}
use Rattle.sd_base.proofs.SameIds.{cases_txn}
use Rattle.sd_logrec.specs.View.{Rec}
use Rattle.sd_log.specs.Logs.{LogState, log_in}
use Rattle.sd_chain.specs.Fates.{Fate, fate}
use Rattle.sd_chain.specs.Storage.{Open, Sound, Storage, opens}
use Rattle.sd_chain.specs.Records.{Each, IsOpen, at, home, stack}
use Rattle.sd_chain.proofs.Apart.{apart, none_at}
use Rattle.sd_chain.proofs.Fates.{fate-open}
use Rattle.sd_moves.specs.Opening.{is_left}
use Rattle.sd_restart.specs.Claims.{AreApart}

pub both : (a b : Bool) → (a && b) ≡ true → (a ≡ true) × (b ≡ true)
both true b e = (refl, e)
both false b e = absurd (cc)

pub left-open : (f : Fate) → is_left f ≡ true → f ≡ Fate.Open
left-open Fate.Unknown e = absurd (cc)
left-open Fate.Open e = refl
left-open Fate.Committed e = absurd (cc)
left-open Fate.Ended e = absurd (cc)

none-any : (test : Rec → Bool) (xs : List Rec) → Each (λ x. test x ≡ false) xs → list_any test xs ≡ false
none-any test [] off = refl
none-any test (x ∷ xs) off = ap (λ b. b || list_any test xs) off.0 ∙ none-any test xs off.1

some-kept : (p s : ℕ) (xs : List Rec) → list_any (at p s) xs ≡ true → filter (at p s) xs ≢ []
some-kept p s xs is none = let e = sym is ∙ none-any (at p s) xs (none_at p s xs none) in absurd (cc)

one-open : (img : Storage) → Sound img → (r : Rid) (t u : TxnId) → Open img t → Open img u → list_any (at r.page r.slot) (opens img t) ≡ true
    → list_any (at r.page r.slot) (opens img u) ≡ true → t ≡ u
one-open img sound r t u alive alive' is is' = ⊎_elim
    (λ e. e)
    (λ ne. absurd (some-kept r.page r.slot (opens img u) is'
    (apart img sound r.page r.slot t u ne alive alive' (some-kept r.page r.slot (opens img t) is))))
    (cases_txn t u)

pub sound-apart : (img : Storage) (logs : List LogState) → Sound img → ((j : ℕ) → img.logs j ≡ log_in logs j) → AreApart logs
sound-apart img logs sound same t u r has_t has_u =
    let a = both (is_left (fate t (log_in logs (home t)))) (list_any (at r.page r.slot) (stack t (log_in logs (home t)))) has_t in
    let b = both (is_left (fate u (log_in logs (home u)))) (list_any (at r.page r.slot) (stack u (log_in logs (home u)))) has_u in
    one-open img sound r t u (alive t a.0) (alive u b.0)
    (ap (λ (xs : List Rec). list_any (at r.page r.slot) (stack t xs)) (same (home t)) ∙ a.1)
    (ap (λ (xs : List Rec). list_any (at r.page r.slot) (stack u xs)) (same (home u)) ∙ b.1)
  where
    alive : (v : TxnId) → is_left (fate v (log_in logs (home v))) ≡ true → Open img v
    alive v is = subst (IsOpen v) (sym (same (home v)))
        (fate-open v (log_in logs (home v)) (left-open (fate v (log_in logs (home v))) is)).0

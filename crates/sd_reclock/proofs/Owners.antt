-- Who owns a record: the one holder with an Excl lock; and the lowest owner of many records. It serves holders.rt, others.rt and locks.rt.
use Rattle.std.proofs.Common.{◌≡◌, ◌⊎◌, inl, inr, [], ◌∷◌, Option, Some, None, sym, ap, subst, ◌∙◌, ⊎_elim}
use Rattle.std.proofs.lemmas.Bool.{cond-true}
use Rattle.std.specs.Map.{lookup}
use Rattle.sd_base.specs.declared.ids.TxnId.{TxnId}
use Rattle.sd_base.specs.declared.place.Mode.{Mode}
use Rattle.sd_base.specs.declared.place.Mode.TheVariants as modes
use Rattle.sd_base.specs.Ids.{same_txn, IsBelow}
use Rattle.sd_reclock.specs.Locks.{Modes, mode_of, AgreeAmong, IsOwner}
use Rattle.sd_reclock.specs.Owning.{IsLow, IsLowerOf}
use Rattle.sd_base.proofs.SameIds.{cases_txn}
use Rattle.sd_base.proofs.Orders.{same-txn, below_or_above, below_trans}

abbrev pub Row : Type 0
Row = TxnId × Mode

pub first_mode : (holders rest : Modes) (e : Row) → holders ≡ e ∷ rest → mode_of holders e.0 ≡ Some e.1
first_mode holders rest e is = ap (λ (h : Modes). mode_of h e.0) is ∙ cond-true (same_txn e.0 e.0) (Some e.1) (lookup (same_txn e.0) rest) (same-txn e.0)

pub owner_first : (holders rest : Modes) (e : Row) → AgreeAmong (mode_of holders) → holders ≡ e ∷ rest → e.1 ≡ modes.Excl → IsOwner (mode_of holders) (Some e.0)
owner_first holders rest e agree is excl =
    let here : mode_of holders e.0 ≡ Some modes.Excl = first_mode holders rest e is ∙ ap (λ (m : Mode). Some m) excl in (
      here,
      λ u owns. ⊎_elim (λ h. sym h) (λ ne. absurd (agree e.0 u modes.Excl modes.Excl ne here owns tt)) (cases_txn e.0 u),
    )

pub owner_shared : (holders rest : Modes) (e : Row) → AgreeAmong (mode_of holders) → holders ≡ e ∷ rest → e.1 ≡ modes.Shared → IsOwner (mode_of holders) None
owner_shared holders rest e agree is shared = λ u owns.
    let here : mode_of holders e.0 ≡ Some modes.Shared = first_mode holders rest e is ∙ ap (λ (m : Mode). Some m) shared in
    ⊎_elim
    (λ h. let there : mode_of holders u ≡ Some modes.Shared = subst (λ (z : TxnId). mode_of holders z ≡ Some modes.Shared) h here in cc (there, owns))
    (λ ne. agree e.0 u modes.Shared modes.Excl ne here owns tt)
    (cases_txn e.0 u)

pub owner_none : (holders : Modes) → holders ≡ [] → IsOwner (mode_of holders) None
owner_none holders is = λ u owns. let none : mode_of holders u ≡ None = ap (λ (h : Modes). mode_of h u) is in cc (none, owns)

-- what isn't below one that isn't above a third isn't below the third
above : (u s r : TxnId) → (IsBelow u s → ⊥) → (IsBelow s r → ⊥) → IsBelow u r → ⊥
above u s r low high b = ⊎_elim
    (λ h. low (subst (λ (z : TxnId). IsBelow u z) (sym h) b))
    (λ ne. ⊎_elim high (λ h. low (below_trans u r s b h)) (below_or_above s r ne))
    (cases_txn s r)

-- the lower of the lowest of two kinds is the lowest of both
pub low_both : (P Q R : TxnId → Type 0) (first second o : Option TxnId) → IsLow P first → IsLow Q second → IsLowerOf first second o
    → ((u : TxnId) → P u → R u) → ((u : TxnId) → Q u → R u) → ((u : TxnId) → R u → P u ⊎ Q u) → IsLow R o
low_both P Q R first second o low high is left right either = record {
  holds = λ t e. ⊎_elim (λ h. left t (low.holds t h)) (λ h. right t (high.holds t h)) (is.holds t e);
  least = λ u r. ⊎_elim
      (λ p. let x = low.least u p in let y = is.least x.0 (inl x.1) in (y.0, y.1, above u x.0 y.0 x.2 y.2))
      (λ q. let x = high.least u q in let y = is.least x.0 (inr x.1) in (y.0, y.1, above u x.0 y.0 x.2 y.2))
      (either u r);
}

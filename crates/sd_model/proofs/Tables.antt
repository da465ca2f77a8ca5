-- The order of records tells the same ones, so a map's look-up is that of its list. It serves the goals of table.rt.
use Rattle.std.proofs.Common.{◌≡◌, ℕ, Bool, List, sym, ap, ◌∙◌, cond, Some}
use Rattle.std.specs.Ordering.{is_eq}
use Rattle.std.specs.Map.{lookup}
use Rattle.sd_base.specs.declared.ids.Rid.{Rid}
use Rattle.sd_base.specs.contracts.ids.RidOrd.TheImpl.{cmp-value}
use Rattle.sd_base.specs.Ids.{same_rid}
use Rattle.sd_model.specs.Tables.{Content, contents}
use Rattle.sd_base.proofs.Orders.{rid_is_eq}

-- the order's look-up of a record
abbrev pub found_by_order : Rid → List (Rid × List ℕ) → Content
found_by_order r rows = lookup (λ (k : Rid). is_eq (cmp-value.it r k)) rows

pub look-up : (r : Rid) (rows : List (Rid × List ℕ)) → found_by_order r rows ≡ contents rows r
look-up r rows = ap (λ (test : Rid → Bool). lookup test rows) (λ i k. rid_is_eq r k i)

pub put-look-up : (rid r : Rid) (value : List ℕ) (old new : List (Rid × List ℕ)) → found_by_order r new ≡ cond (is_eq (cmp-value.it rid r)) (Some value) (found_by_order r old)
    → contents new r ≡ cond (same_rid rid r) (Some value) (contents old r)
put-look-up rid r value old new e = sym (look-up r new) ∙ (e
    ∙ (ap (λ (b : Bool). cond b (Some value) (found_by_order r old)) (rid_is_eq rid r) ∙ ap (λ (x : Content). cond (same_rid rid r) (Some value) x) (look-up r old)))

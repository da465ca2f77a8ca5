use Rattle.std.proofs.Common.{◌≡◌, sym, ap, subst, ◌∙◌, ◌-◌, List, length, Some, slice_get}
use Rattle.sd_recovered.proofs.Rising.{Row, AreBelow, last_below, less_is}
use Rattle.std.specs.Map.{keys_of}
use Rattle.sd_recovered.proofs.closed.Closed.are_below.Goals as goal

pub returns-in-Some : goal.returns-in-Some
returns-in-Some c below =
    let rows = c.self.inside.rows.items in
    let there : Some c.in-Some.last.now ≡ slice_get rows (length rows - 1) =
    c.in-Some.ensures.value ∙ ap (λ (l : List Row). slice_get l (length l - 1)) c.deref.ensures.value in
    subst (λ (l : List Row). AreBelow c.args.txn.now (keys_of l)) c.self.view_is
    (last_below c.args.txn.now rows c.in-Some.last.now c.self.invariant (sym there)
    (sym c.cmp.ensures ∙ less_is c.cmp.result (sym c.is_lt.ensures ∙ below)))

use Rattle.sd_turnstile.proofs.Seats.{opens}
use Rattle.sd_turnstile.specs.Rule.{Stands, view}
use Rattle.atomic_table.specs.Table.{opening}
use Rattle.std.proofs.Common.{◌≡◌, ◌<◌, rules, subst, length, sym, [], ◌∷◌, None, Some, false}
use Rattle.sd_turnstile.proofs.turnstile.Turnstile.new.Goals as goal

pub new-requires : goal.new-requires
new-requires g c =
    let first = c.of.result.value in
    let len = c.length-length.ensures.length in
    let few : c.args.parts < 4294967296 = search rules in
    let same : first ≡ c.args.value = c.of.ensures in
    let items : c.push.new.self.items ≡ Some c.args.value ∷ [] = search rules in
    let rule = Stands g.V.Shift.history g.V.Shift.stands g.V.Shift.turns c.args.parts in
    subst (λ x. rule x (opening (0 ∷ 0 ∷ c.length-length.result ∷ []) c.push.new.self.items
    (view [] [] c.args.parts None false None))) (sym same)
    (subst (λ n. rule c.args.value (opening (0 ∷ 0 ∷ n ∷ []) c.push.new.self.items
    (view [] [] c.args.parts None false None))) (sym len)
    (subst (λ xs. rule c.args.value (opening (0 ∷ 0 ∷ length (g.V.Shift.history c.args.value) ∷ []) xs
    (view [] [] c.args.parts None false None))) (sym items)
    (opens g.V.Shift.history g.V.Shift.stands g.V.Shift.turns c.args.parts c.args.value few c.requires.stands)))

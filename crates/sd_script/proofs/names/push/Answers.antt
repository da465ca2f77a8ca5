use Rattle.std.proofs.Common.{◌≡◌, ℕ, List, None, refl, sym, subst, ap, ◌∙◌}
use Rattle.std.specs.BTreeMap.{get, is_at}
use Rattle.std.specs.List.Sorted.{IsStrictlySortedBy}
use Rattle.std.specs.Map.{keys_of, lookup}
use Rattle.std.specs.Ordering.{nat_cmp}
use Rattle.sd_script.specs.Ordinals.{ordinal_at}
use Rattle.sd_script.proofs.Rising.{none_above, none_from, or_second, ordinal_push, sorted_push}
use Rattle.sd_script.proofs.names.push.Goals as goal

pub returns-clause-rises : goal.returns-clause-rises
returns-clause-rises c =
    subst (λ (es : List (ℕ × ℕ)). IsStrictlySortedBy nat_cmp (keys_of es)) (sym c.in_ok-push.ensures.items)
    (sorted_push c.args.rising.now.items c.args.key c.args.ordinal c.requires.rises c.requires.above)

had_none : (c : goal.In_ok-push) → ordinal_at c.args.rising.now.items c.args.others.now c.args.key ≡ None
had_none c =
    let es = c.args.rising.now.items in
    (or_second (lookup (is_at (nat_cmp c.args.key)) es) (get nat_cmp c.args.others.now c.args.key) (none_above es c.args.key c.requires.above)).0
    (sym c.beside.ensures ∙ none_from c.beside.result (sym c.is_some.ensures ∙ c.if-is_some.false))

pub returns-clause-new : goal.returns-clause-new
returns-clause-new c = (λ _. had_none c, λ _. refl)

pub returns-clause-ok : goal.returns-clause-ok
returns-clause-ok c = λ _ other.
    ap (λ (es : List (ℕ × ℕ)). ordinal_at es c.args.others.now other) c.in_ok-push.ensures.items
    ∙ ordinal_push c.args.rising.now.items c.args.others.now c.args.key c.args.ordinal other (had_none c)

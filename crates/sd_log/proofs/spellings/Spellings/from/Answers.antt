use Rattle.std.proofs.Common.{◌≤◌, List, ℕ, length, drop, sym, ap, subst, ◌∙◌}
use Rattle.sd_log.proofs.Spelling.{rest_from}
use Rattle.sd_log.proofs.spellings.Spellings.from.Goals as goal

pub split_at-requires : goal.split_at-requires
split_at-requires c =
    let rest = rest_from c.self.inside c.args.self.now c.deref.result.now c.args.index c.start_of-at.result c.len.result c.self.invariant c.self.view_is
    c.deref.ensures.value c.len.ensures c.start_of-at.ensures.slot c.start_of-at.ensures.end in
    subst (λ (l : List ℕ). c.start_of-at.result ≤ length l) (sym c.deref-2.ensures.value) rest.0

pub returns : goal.returns
returns c =
    let rest = rest_from c.self.inside c.args.self.now c.deref.result.now c.args.index c.start_of-at.result c.len.result c.self.invariant c.self.view_is
    c.deref.ensures.value c.len.ensures c.start_of-at.ensures.slot c.start_of-at.ensures.end in
    c.split_at.ensures.back ∙ ap (drop c.start_of-at.result) c.deref-2.ensures.value ∙ rest.1

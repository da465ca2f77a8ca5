use Rattle.std.proofs.Common.{◌≡◌, sym, ap, ◌∙◌}
use Rattle.std.specs.Prelude.{Some}
use Rattle.std.specs.Option.{option_copied_mut}
use Rattle.sd_base.proofs.Results.{when_ok}
use Rattle.sd_page.specs.Page.{applied}
use Rattle.sd_pool.specs.Buffers.{Buffers, image_at, rewritten}
use Rattle.sd_update.proofs.changes.rewrite.Goals as goal

pub returns-clause-others : goal.returns-clause-others
returns-clause-others c = λ q ne. ap (λ (b : Buffers). image_at b q) (c.get.follows.holds c.apply.new.self)
    ∙ c.rewritten.ensures.others c.args.pool.now c.args.p q c.apply.new.self ne

pub returns-clause-frames : goal.returns-clause-frames
returns-clause-frames c = ap (λ (b : Buffers). b.frames) (c.get.follows.holds c.apply.new.self)
    ∙ c.rewritten.ensures.frames c.args.pool.now c.args.p c.apply.new.self

pub returns-clause-pool : goal.returns-clause-pool
returns-clause-pool c image is =
    let lent : Some c.unwrap.result.now ≡ Some image = sym (ap option_copied_mut c.unwrap.ensures) ∙ c.get.ensures.value ∙ is in
    let same : c.unwrap.result.now ≡ image = cc in
    c.get.follows.holds c.apply.new.self
    ∙ ap (rewritten c.args.pool.now c.args.p) (when_ok c.apply.result tt _ c.unwrap-2.ensures c.apply.ensures.applied
    ∙ ap (applied c.args.op.now c.args.lsn) same)

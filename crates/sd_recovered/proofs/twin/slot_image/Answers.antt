use Rattle.std.proofs.Common.{◌≡◌, ◌∙◌, ◌+◌, ◌-◌, ap, sym, subst, take, drop, arith}
use Rattle.sd_page.specs.Spelling.{WellFormed}
use Rattle.sd_recovered.proofs.twin.slot_image.Goals as goal

pub returns-in-Some-clause-image : goal.returns-in-Some-clause-image
returns-in-Some-clause-image c =
    let size : c.args.gate + 1025 - (c.args.gate + 1) ≡ 1024 = omega arith in record {
      shown = sym c.is_open.ensures ∙ c.if-not-is_open.false;
      body = c.in-Some.ensures.0 ∙ ap (λ n. take n (drop (c.args.gate + 1) c.args.bytes.now)) size;
      fits = c.in-Some.ensures.1;
      number = c.in-Some.ensures.2;
    }

pub returns-in-None-clause-refusals : goal.returns-in-None-clause-refusals
returns-in-None-clause-refusals c = (
  c.damaged.ensures,
  λ sound.
      let size : 1024 ≡ c.args.gate + 1025 - (c.args.gate + 1) = omega arith in
      c.in-None.ensures (subst (λ n. WellFormed (take n (drop (c.args.gate + 1) c.args.bytes.now)) c.args.p) size
      (sound (sym c.is_open.ensures ∙ c.if-not-is_open.false))),
)

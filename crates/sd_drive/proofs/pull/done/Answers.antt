use Rattle.std.proofs.Common.{sym, ◌∙◌}
use Rattle.sd_drive.proofs.Answering.{did-as, not-did}
use Rattle.sd_drive.proofs.pull.done.Goals as goal

pub returns-in-Did-clause-helped : goal.returns-in-Did-clause-helped
returns-in-Did-clause-helped g c =
    let h = c.in_ok-answer.ensures.helped in (h.0, did-as h.0 (h.1 ∙ c.in-Did.is), h.2)

pub returns-in_default : goal.returns-in_default
returns-in_default g c = record {
  helped = let h = c.in_ok-answer.ensures.helped in (h.0, not-did h.0 (λ did. c.in_default.not-Did (sym h.1 ∙ did)), h.2);
  memory = tt;
  rests = c.in_ok-answer.ensures.rests;
}

pub help-requires-clause-helps : goal.help-requires-clause-helps
help-requires-clause-helps g c = c.requires.helps

use Rattle.sd_tests_events.proofs.runs.serve.Goals as goal

pub returns-then-is_ok : goal.returns-then-is_ok
returns-then-is_ok g c = let kept = c.requires in (kept.0, c.call.ensures.keeps kept.0 kept.1)

pub call-requires-2-clause-kept : goal.call-requires-2-clause-kept
call-requires-2-clause-kept g c = let kept = c.requires in (kept.0, c.call.ensures.keeps kept.0 kept.1)

pub returns : goal.returns
returns g c =
    let kept = c.requires in
    (kept.0, c.call-2.ensures.keeps kept.0 (c.call.ensures.keeps kept.0 kept.1))

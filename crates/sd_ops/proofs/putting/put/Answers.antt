use Rattle.std.proofs.Common.{◌≡◌, ◌⊎◌, [], ◌&&◌, cond, inr, refl, sym, ap, ◌∙◌, subst}
use Rattle.std.specs.Prelude.{OnErr, option_copied, Result, Err}
use Rattle.std.proofs.lemmas.Result.{err_from_is_err_and}
use Rattle.sd_base.specs.Ids.{same_rid, same_txn}
use Rattle.sd_base.specs.declared.place.Mode.TheVariants as modes
use Rattle.sd_base.specs.declared.refusal.Refusal.TheVariants as R
use Rattle.sd_model.specs.State.{took}
use Rattle.sd_model.specs.Waits.{claim_of}
use Rattle.sd_pagelock.specs.Directory.{entry_at}
use Rattle.sd_pagelock.specs.Places.{owns}
use Rattle.sd_reclock.specs.Locks.{held}
use Rattle.sd_update.specs.Changing.{FitsThere, LacksLsns, LacksRoom, change_of, putting, Change}
use Rattle.sd_state.specs.Complexes.{parts}
use Rattle.sd_state.specs.Good.{Good}
use Rattle.sd_state.specs.Parts.{Parts, status_at, txns_at}
use Rattle.sd_state.specs.Values.{Pending}
use Rattle.sd_state.specs.Working.{with_locks}
use Rattle.sd_txn.specs.Transactions.{state_at}
use Rattle.sd_fits.proofs.Heads.{is-ready}
use Rattle.sd_ops.specs.Puts.{IsLowered}
use Rattle.sd_ops.proofs.Filled.{memory-not_full, memory-not_lsns, same-refusal}
use Rattle.sd_ops.proofs.Vacating.{err-if}
use Rattle.sd_ops.proofs.Setting.{frames-kept, given-excl, lowered-same, running-named, was-weaker}
use Rattle.sd_base.specs.declared.refusal.Refusal.{Refusal}
use Rattle.sd_ops.specs.Logged.{HasPlace, PutLeaves}
use Rattle.sd_model.specs.Tables.{Content}
use Rattle.sd_ops.proofs.Leaving.{only-locks}
use Rattle.sd_ops.proofs.Logging.{by-err, lacks-for, put-made}
use Rattle.sd_ops.proofs.putting.put.Goals as goal

pub change-requires-clause-good : goal.change-requires-clause-good
change-requires-clause-good g c = let w = c.requires.fits.0 in let f = c.requires.fits.1 in
    (took c.args.t.now c.args.r.now (claim_of modes.Excl) [] w.scene.state, c.in_ok-grant.ensures.good w.scene.state f.good)

pub change-requires-clause-numbered : goal.change-requires-clause-numbered
change-requires-clause-numbered g c =
    let rig = c.args.c.now.rig in
    let w = c.requires.fits.0 in
    let f = c.requires.fits.1 in
    let n = c.keeps.ensures in
    running-named (g.G.Rig.seen rig) (g.G.Rig.leaves rig) Pending.Idle (parts c.args.c.now) w.scene.state c.args.t.now f.good
    (is-ready (g.G.Rig.seen rig) (g.G.Rig.leaves rig) Pending.Idle (parts c.args.c.now) w.scene.state f.good c.args.t.now n.low n.high
    c.requires.up c.requires.runs).runs n.low n.high n.epoch n.seq

pub change-requires-clause-lock : goal.change-requires-clause-lock
change-requires-clause-lock g c = given-excl (held c.args.c.now.locks) (held c.grant.new.self.locks) c.args.t.now c.args.r.now c.in_ok-grant.ensures.given

pub lower-requires : goal.lower-requires
lower-requires g c = record {
  weaker = was-weaker c.mode-was.result (held c.change.new.c.locks c.args.t.now c.args.r.now)
      (ap (λ (x : Parts). held x.locks c.args.t.now c.args.r.now) c.in-Err.ensures.refused
      ∙ given-excl (held c.args.c.now.locks) (held c.grant.new.self.locks) c.args.t.now c.args.r.now c.in_ok-grant.ensures.given);
}

pub returns-in-Ok-clause-put : goal.returns-in-Ok-clause-put
returns-in-Ok-clause-put g c = record {
  mid = parts c.grant.new.self;
  granted = record { rest = c.grant.ensures.parts; given = c.in_ok-grant.ensures.given; waiting = c.grant.ensures.waits };
  made = c.in-Ok.ensures.made;
  keeps = λ m good. subst (λ d. Good (g.G.Rig.seen d) (g.G.Rig.leaves d) Pending.Idle (parts c.change.new.c)
      (putting c.args.t.now c.args.r.now (option_copied c.args.after) m)) (c.change.ensures.rig ∙ c.grant.ensures.rig)
      (c.in-Ok.ensures.good m (subst (λ d. Good (g.G.Rig.seen d) (g.G.Rig.leaves d) Pending.Idle (parts c.grant.new.self) m)
      (sym c.grant.ensures.rig) good));
  frames = frames-kept c.args.t.now c.args.r.now c.args.capacity (option_copied c.args.after) (parts c.args.c.now) (parts c.grant.new.self)
      (parts c.change.new.c) c.keeps.ensures.low c.keeps.ensures.high c.requires.fits.1.good.shape.pools c.grant.ensures.parts
      c.in-Ok.ensures.made;
}

pub returns-in-Err-clause-lowered : goal.returns-in-Err-clause-lowered
returns-in-Err-clause-lowered g c = record {
  rest = ap (with_locks c.lower.new.self) (c.in-Err.ensures.refused ∙ c.grant.ensures.parts);
  same = lowered-same (held c.args.c.now.locks) (held c.grant.new.self.locks) (held c.lower.new.self) c.args.t.now c.args.r.now c.mode-was.result
      modes.Excl c.mode-was.ensures.held c.in_ok-grant.ensures.given
      (λ u q. subst (λ (x : Parts). held c.lower.new.self u q
      ≡ cond (same_txn c.args.t.now u && same_rid c.args.r.now q) c.mode-was.result (held x.locks u q))
      c.in-Err.ensures.refused (c.lower.ensures.lowered u q));
  waiting = c.lower.ensures.waits ∙ ap (λ (x : Parts). x.locks.waiting) c.in-Err.ensures.refused ∙ c.grant.ensures.waits;
}

pub returns-in-Err-clause-full : goal.returns-in-Err-clause-full
returns-in-Err-clause-full g c is = subst (λ (x : Parts). LacksRoom (change_of c.args.t.now c.args.r.now c.args.capacity (option_copied c.args.after) x) x)
    c.grant.ensures.parts (c.in-Err.ensures.full.0 is)

pub returns-in-Err-clause-lsns : goal.returns-in-Err-clause-lsns
returns-in-Err-clause-lsns g c is = subst (λ (x : Parts). LacksLsns c.args.t.now x) c.grant.ensures.parts (c.in-Err.ensures.lsns.0 is).1

-- ---- what is asked of the calls

pub grant-requires-clause-good : goal.grant-requires-clause-good
grant-requires-clause-good g c = let fits = c.requires.fits in (fits.0.scene.state, fits.1.good)

pub grant-requires-clause-idle : goal.grant-requires-clause-idle
grant-requires-clause-idle g c = c.requires.fits.1.idle

pub change-requires-clause-idle : goal.change-requires-clause-idle
change-requires-clause-idle g c = ap (λ (x : Parts). x.due) c.grant.ensures.parts ∙ c.requires.fits.1.idle

pub change-requires-clause-up : goal.change-requires-clause-up
change-requires-clause-up g c = ap (λ (x : Parts). status_at x c.args.t.now.inst) c.grant.ensures.parts ∙ c.requires.up

pub change-requires-clause-runs : goal.change-requires-clause-runs
change-requires-clause-runs g c = let t = c.args.t.now in
    ap (λ (x : Parts). state_at (txns_at x t.inst) t) c.grant.ensures.parts ∙ c.requires.runs

pub change-requires-clause-owns : goal.change-requires-clause-owns
change-requires-clause-owns g c =
    ap (λ (x : Parts). owns (entry_at x.directory c.args.r.now.page) c.args.t.now.inst) c.grant.ensures.parts ∙ c.requires.held

pub change-requires-clause-fits : goal.change-requires-clause-fits
change-requires-clause-fits g c = subst (FitsThere c.args.t.now c.args.r.now c.args.capacity (option_copied c.args.after))
    (sym c.grant.ensures.parts) c.requires.takes

-- ---- the way out where there is no memory for the lock, and the rig

pub returns-in_err-grant-clause-lowered : goal.returns-in_err-grant-clause-lowered
returns-in_err-grant-clause-lowered g c =
    let e = err_from_is_err_and c.from_residual.result c.from_residual.ensures.1 in
    subst (λ x. OnErr x (IsLowered (parts c.args.c.now) (parts c.grant.new.self))) (sym e.1) (record {
      rest = c.grant.ensures.parts;
      same = λ u q. ap (λ (x : Parts). held x.locks u q) c.in_err-grant.ensures.err;
      waiting = c.grant.ensures.waits;
    })

pub returns-in_err-grant-clause-full : goal.returns-in_err-grant-clause-full
returns-in_err-grant-clause-full g c full =
    let e = err_from_is_err_and c.from_residual.result c.from_residual.ensures.1 in
    memory-not_full (same-refusal c.from_residual.result e.0 R.Memory R.LogFull e.1 e.2 full)

pub returns-in_err-grant-clause-lsns : goal.returns-in_err-grant-clause-lsns
returns-in_err-grant-clause-lsns g c lsns =
    let e = err_from_is_err_and c.from_residual.result c.from_residual.ensures.1 in
    memory-not_lsns (same-refusal c.from_residual.result e.0 R.Memory R.LsnEnd e.1 e.2 lsns)

pub returns-in_err-grant-clause-refusals : goal.returns-in_err-grant-clause-refusals
returns-in_err-grant-clause-refusals g c =
    let e = err_from_is_err_and c.from_residual.result c.from_residual.ensures.1 in
    err-if c.from_residual.result e.0 R.Memory (λ n. (n ≡ R.LogFull) ⊎ ((n ≡ R.LsnEnd) ⊎ (n ≡ R.Memory))) e.1 e.2 (inr (inr refl))

pub returns-in-Ok-clause-rig : goal.returns-in-Ok-clause-rig
returns-in-Ok-clause-rig g c = c.change.ensures.rig ∙ c.grant.ensures.rig

pub returns-in-Err-clause-rig : goal.returns-in-Err-clause-rig
returns-in-Err-clause-rig g c = c.change.ensures.rig ∙ c.grant.ensures.rig

pub returns-in-Err-clause-refusals : goal.returns-in-Err-clause-refusals
returns-in-Err-clause-refusals g c = c.in-Err.ensures.refusals

-- ---- what it leaves

abbrev an_err : Refusal → Result (Unit {0}) Refusal
an_err n = Err n

pub returns-in_err-grant-clause-left : goal.returns-in_err-grant-clause-left
returns-in_err-grant-clause-left g c =
    let old : Parts = parts c.args.c.now in
    let new : Parts = parts c.grant.new.self in
    let e = err_from_is_err_and c.from_residual.result c.from_residual.ensures.1 in
    by-err (λ (x : Result (Unit {0}) Refusal). PutLeaves c.args.t.now c.args.r.now c.args.capacity (option_copied c.args.after) x old new)
    c.from_residual.result e.0 R.Memory e.1 e.2 (tt, only-locks old new c.grant.ensures.parts)

pub returns-in-Ok-clause-left : goal.returns-in-Ok-clause-left
returns-in-Ok-clause-left g c =
    let t = c.args.t.now in
    let r = c.args.r.now in
    let fits = c.requires.fits in
    let mid : Parts = parts c.grant.new.self in
    let after : Content = option_copied c.args.after in
    let k : Change = change_of t r c.args.capacity after mid in
    let room : LacksRoom k mid → ⊥ = λ lacks. let e = c.in-Ok.ensures.full.1 lacks in absurd (cc) in
    let lsns : LacksLsns t mid → ⊥ = λ lacks. let e = c.in-Ok.ensures.lsns.1 (room, lacks) in absurd (cc) in
    let place : HasPlace k mid = record { room = room; lsns = lsns } in
    put-made t r c.args.capacity after (parts c.args.c.now) mid (parts c.change.new.c)
    (c.in_ok-grant.ensures.good fits.0.scene.state fits.1.good).shape c.grant.ensures.parts place c.in-Ok.ensures.made

pub returns-in-Err-clause-left : goal.returns-in-Err-clause-left
returns-in-Err-clause-left g c =
    let t = c.args.t.now in
    let r = c.args.r.now in
    let old : Parts = parts c.args.c.now in
    let after : Content = option_copied c.args.after in (
      lacks-for t r c.args.capacity after c.in-Err.refusal old c.in-Err.ensures.refusals
          (λ e. returns-in-Err-clause-full g c (ap an_err e))
          (λ e. subst (λ (x : Parts). (LacksRoom (change_of t r c.args.capacity after x) x → ⊥) × LacksLsns t x) c.grant.ensures.parts
          (c.in-Err.ensures.lsns.0 (ap an_err e))),
      only-locks old _ (ap (with_locks c.lower.new.self) (c.in-Err.ensures.refused ∙ c.grant.ensures.parts)),
    )

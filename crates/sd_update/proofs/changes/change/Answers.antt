use Rattle.std.proofs.Common.{◌≡◌, ℕ, true, is_some, sym, ap, ◌∙◌, subst}
use Rattle.std.specs.Prelude.{IsSome, option_copied}
use Rattle.std.proofs.lemmas.Result.{err_from_is_err_and}
use Rattle.sd_base.specs.declared.refusal.Refusal.TheVariants as refusals
use Rattle.sd_base.proofs.Results.{on_ok}
use Rattle.sd_pagelock.specs.Asks.{open_asks}
use Rattle.sd_pagelock.specs.Directory.{asks_at, entry_at}
use Rattle.sd_pool.specs.Buffers.{image_at}
use Rattle.sd_update.specs.Changing.{Change, IsPut, LacksLsns, LacksRoom, change_in, change_of, putting, update}
use Rattle.sd_state.specs.Complexes.{parts}
use Rattle.sd_state.specs.Good.{Good}
use Rattle.sd_state.specs.Parts.{Parts, is_active, pool_at}
use Rattle.sd_state.specs.Values.{Pending}
use Rattle.sd_state.proofs.Answered.{not-ok}
use Rattle.sd_update.proofs.ChangeCalls.{all-open, err-moved, memory-last, memory-only}
use Rattle.sd_update.proofs.ChangeMade.{Asks, copy, lsn-left, made, made-good, room-there, row, takes-there}
use Rattle.sd_update.proofs.changes.change.Goals as goal

pub image-image-requires-clause-held : goal.image-image-requires-clause-held
image-image-requires-clause-held g c =
    let p : Parts = parts c.args.c.now in
    let asks : Asks c.args.t.now c.args.r c.args.capacity (option_copied c.args.after) p = record {
      low = c.requires.numbered.low;
      high = c.requires.numbered.high;
      idle = c.requires.idle;
      up = c.requires.up;
      runs = c.requires.runs;
      lock = c.requires.lock;
      agree = c.keeps.ensures.agree;
      owned = c.requires.owns;
      fits = c.requires.fits;
    } in
    let seen = g.G.Rig.seen c.args.c.now.rig in
    let leaves = g.G.Rig.leaves c.args.c.now.rig in
    let there = copy c.args.t.now c.args.r c.args.capacity (option_copied c.args.after) seen leaves p c.requires.good.0 c.requires.good.1 asks in
    ap is_some there

pub returns-in_err-reserve-clause-lsns : goal.returns-in_err-reserve-clause-lsns
returns-in_err-reserve-clause-lsns g c =
    let e = err_from_is_err_and c.from_residual.result c.from_residual.ensures.1 in (
      λ is. c.reserved_for.ensures.lsns.0 (err-moved c.reserved_for.result c.from_residual.result e.0 c.in_err-reserve.field-0.0 refusals.LsnEnd
          c.in_err-reserve.was e.1 e.2 is),
      λ both. err-moved c.from_residual.result c.reserved_for.result c.in_err-reserve.field-0.0 e.0 refusals.LsnEnd
          e.1 c.in_err-reserve.was (sym e.2) (c.reserved_for.ensures.lsns.1 both),
    )

pub prepared-requires-clause-left : goal.prepared-requires-clause-left
prepared-requires-clause-left g c =
    let p : Parts = parts c.args.c.now in
    let asks : Asks c.args.t.now c.args.r c.args.capacity (option_copied c.args.after) p = record {
      low = c.requires.numbered.low;
      high = c.requires.numbered.high;
      idle = c.requires.idle;
      up = c.requires.up;
      runs = c.requires.runs;
      lock = c.requires.lock;
      agree = c.keeps.ensures.agree;
      owned = c.requires.owns;
      fits = c.requires.fits;
    } in
    let seen = g.G.Rig.seen c.args.c.now.rig in
    let leaves = g.G.Rig.leaves c.args.c.now.rig in
    let k : Change = change_of c.args.t.now c.args.r c.args.capacity (option_copied c.args.after) p in
    let room : LacksRoom k p → ⊥ = λ over. not-ok _ _ (sym (c.reserved_for.ensures.full.1 over) ∙ c.in_ok-reserve.was) in
    let left : LacksLsns c.args.t.now p → ⊥ = λ over. not-ok _ _ (sym (c.reserved_for.ensures.lsns.1 (room, over)) ∙ c.in_ok-reserve.was) in
    lsn-left c.args.t.now c.args.r c.args.capacity (option_copied c.args.after) seen leaves p c.requires.good.0 c.requires.good.1 asks left

pub put_change-requires-clause-known : goal.put_change-requires-clause-known
put_change-requires-clause-known g c =
    let p : Parts = parts c.args.c.now in
    let asks : Asks c.args.t.now c.args.r c.args.capacity (option_copied c.args.after) p = record {
      low = c.requires.numbered.low;
      high = c.requires.numbered.high;
      idle = c.requires.idle;
      up = c.requires.up;
      runs = c.requires.runs;
      lock = c.requires.lock;
      agree = c.keeps.ensures.agree;
      owned = c.requires.owns;
      fits = c.requires.fits;
    } in
    let seen = g.G.Rig.seen c.args.c.now.rig in
    let leaves = g.G.Rig.leaves c.args.c.now.rig in
    ap is_some (row c.args.t.now c.args.r c.args.capacity (option_copied c.args.after) seen leaves p c.requires.good.0 c.requires.good.1 asks)

pub put_change-requires-clause-room : goal.put_change-requires-clause-room
put_change-requires-clause-room g c =
    let p : Parts = parts c.args.c.now in
    let k : Change = change_of c.args.t.now c.args.r c.args.capacity (option_copied c.args.after) p in
    let room : LacksRoom k p → ⊥ = λ over. not-ok _ _ (sym (c.reserved_for.ensures.full.1 over) ∙ c.in_ok-reserve.was) in
    let left : LacksLsns c.args.t.now p → ⊥ = λ over. not-ok _ _ (sym (c.reserved_for.ensures.lsns.1 (room, over)) ∙ c.in_ok-reserve.was) in
    room-there k p (update (change_in c.args.t.now c.in_ok-ready.ready.top c.in_ok-ready.ready.capacity (option_copied c.in_ok-ready.ready.after))) c.in_ok-reserve.reserve
    (ap update c.in_ok-ready.ensures.change) c.in_ok-reserve.ensures.ok room

pub put_change-requires-clause-held : goal.put_change-requires-clause-held
put_change-requires-clause-held g c =
    let p : Parts = parts c.args.c.now in
    let asks : Asks c.args.t.now c.args.r c.args.capacity (option_copied c.args.after) p = record {
      low = c.requires.numbered.low;
      high = c.requires.numbered.high;
      idle = c.requires.idle;
      up = c.requires.up;
      runs = c.requires.runs;
      lock = c.requires.lock;
      agree = c.keeps.ensures.agree;
      owned = c.requires.owns;
      fits = c.requires.fits;
    } in
    let seen = g.G.Rig.seen c.args.c.now.rig in
    let leaves = g.G.Rig.leaves c.args.c.now.rig in
    let there = copy c.args.t.now c.args.r c.args.capacity (option_copied c.args.after) seen leaves p c.requires.good.0 c.requires.good.1 asks in
    subst (λ (z : Change). IsSome (image_at (pool_at p c.args.t.now.inst) z.rid.page)) (sym c.in_ok-ready.ensures.change) (ap is_some there)

pub put_change-requires-clause-open : goal.put_change-requires-clause-open
put_change-requires-clause-open g c =
    let p : Parts = parts c.args.c.now in
    subst (λ (z : Change). open_asks (entry_at p.directory z.rid.page) (asks_at p.directory z.rid.page) ≡ asks_at p.directory z.rid.page)
    (sym c.in_ok-ready.ensures.change)
    (all-open (entry_at p.directory c.args.r.page) (λ ask. is_active p ask.by ≡ true) (asks_at p.directory c.args.r.page)
    (c.requires.good.1.asks c.args.r.page))

pub put_change-requires-clause-takes : goal.put_change-requires-clause-takes
put_change-requires-clause-takes g c =
    takes-there c.args.t.now c.args.r c.args.capacity (option_copied c.args.after) (parts c.args.c.now) c.in_ok-ready.ready.top
    c.in_ok-ready.ready.capacity (option_copied c.in_ok-ready.ready.after) c.in_ok-ready.ensures.change c.requires.small c.requires.fits

pub returns-clause-good : goal.returns-clause-good
returns-clause-good g c m good =
    let p : Parts = parts c.args.c.now in
    let asks : Asks c.args.t.now c.args.r c.args.capacity (option_copied c.args.after) p = record {
      low = c.requires.numbered.low;
      high = c.requires.numbered.high;
      idle = c.requires.idle;
      up = c.requires.up;
      runs = c.requires.runs;
      lock = c.requires.lock;
      agree = c.keeps.ensures.agree;
      owned = c.requires.owns;
      fits = c.requires.fits;
    } in
    let seen = g.G.Rig.seen c.args.c.now.rig in
    let leaves = g.G.Rig.leaves c.args.c.now.rig in
    let k : Change = change_of c.args.t.now c.args.r c.args.capacity (option_copied c.args.after) p in
    let room : LacksRoom k p → ⊥ = λ over. not-ok _ _ (sym (c.reserved_for.ensures.full.1 over) ∙ c.in_ok-reserve.was) in
    let left : LacksLsns c.args.t.now p → ⊥ = λ over. not-ok _ _ (sym (c.reserved_for.ensures.lsns.1 (room, over)) ∙ c.in_ok-reserve.was) in
    let put = λ (q : IsPut (change_in c.args.t.now c.in_ok-ready.ready.top c.in_ok-ready.ready.capacity (option_copied c.in_ok-ready.ready.after))
    c.in_ok-reserve.reserve p (parts c.put_change.new.c)).
    subst (λ (n : ℕ). IsPut k n p (parts c.put_change.new.c)) c.in_ok-reserve.ensures.ok
    (subst (λ (z : Change). IsPut z c.in_ok-reserve.reserve p (parts c.put_change.new.c)) c.in_ok-ready.ensures.change q) in
    on_ok c.put_change.result _ _ (λ q. subst (λ x. Good (g.G.Rig.seen x) (g.G.Rig.leaves x) Pending.Idle (parts c.put_change.new.c)
    (putting c.args.t.now c.args.r (option_copied c.args.after) m)) (sym c.put_change.ensures.rig)
    (made-good c.args.t.now c.args.r c.args.capacity (option_copied c.args.after) seen leaves p m good asks (parts c.put_change.new.c) (put q) room left))
    c.put_change.ensures.put

pub returns-clause-made : goal.returns-clause-made
returns-clause-made g c =
    let p : Parts = parts c.args.c.now in
    let asks : Asks c.args.t.now c.args.r c.args.capacity (option_copied c.args.after) p = record {
      low = c.requires.numbered.low;
      high = c.requires.numbered.high;
      idle = c.requires.idle;
      up = c.requires.up;
      runs = c.requires.runs;
      lock = c.requires.lock;
      agree = c.keeps.ensures.agree;
      owned = c.requires.owns;
      fits = c.requires.fits;
    } in
    let seen = g.G.Rig.seen c.args.c.now.rig in
    let leaves = g.G.Rig.leaves c.args.c.now.rig in
    let k : Change = change_of c.args.t.now c.args.r c.args.capacity (option_copied c.args.after) p in
    let room : LacksRoom k p → ⊥ = λ over. not-ok _ _ (sym (c.reserved_for.ensures.full.1 over) ∙ c.in_ok-reserve.was) in
    let left : LacksLsns c.args.t.now p → ⊥ = λ over. not-ok _ _ (sym (c.reserved_for.ensures.lsns.1 (room, over)) ∙ c.in_ok-reserve.was) in
    let put = λ (q : IsPut (change_in c.args.t.now c.in_ok-ready.ready.top c.in_ok-ready.ready.capacity (option_copied c.in_ok-ready.ready.after))
    c.in_ok-reserve.reserve p (parts c.put_change.new.c)).
    subst (λ (n : ℕ). IsPut k n p (parts c.put_change.new.c)) c.in_ok-reserve.ensures.ok
    (subst (λ (z : Change). IsPut z c.in_ok-reserve.reserve p (parts c.put_change.new.c)) c.in_ok-ready.ensures.change q) in
    on_ok c.put_change.result _ _ (λ q. made c.args.t.now c.args.r c.args.capacity (option_copied c.args.after) seen leaves p c.requires.good.0
    c.requires.good.1 asks (parts c.put_change.new.c) (put q) room left)
    c.put_change.ensures.put

pub returns-clause-lsns : goal.returns-clause-lsns
returns-clause-lsns g c = (
  λ is. absurd (memory-only c.put_change.result c.put_change.ensures.only is),
  λ both. absurd (not-ok _ _ (sym (c.reserved_for.ensures.lsns.1 both) ∙ c.in_ok-reserve.was)),
)

pub returns-clause-refusals : goal.returns-clause-refusals
returns-clause-refusals g c = memory-last c.put_change.result c.put_change.ensures.only

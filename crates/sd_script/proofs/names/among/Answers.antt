use Rattle.std.proofs.Common.{rules, of_calls, ◌≢◌, ◌<◌, length, get_or, sym, arith}
use Rattle.std.specs.Prelude.{nat_lt}
use Rattle.std.proofs.lemmas.Fn.{always_returns_same}
use Rattle.sd_script.proofs.Rising.{none_above, at_place, no_place, parted}
use Rattle.sd_script.proofs.names.among.Goals as goal
use Rattle.sd_script.proofs.names.among.Goals.{else-place-rising-via-then-place-rising+else-rising-place, else-place-rising-via-else-place-rising}

pub returns-then-is_above : goal.returns-then-is_above
returns-then-is_above c = sym (none_above c.args.rising.now c.args.key (c.is_above.ensures.0 c.if-is_above.true))

pub returns-then-rising-place : goal.returns-then-rising-place
returns-then-rising-place c = at_place c.args.rising.now c.args.key c.partition_point-place.result c.requires c.if-place-rising.true c.if-rising-place.true

other : (c : goal.Joined-else-place-rising) → c.partition_point-place.result < length c.args.rising.now
    → (get_or c.args.rising.now c.partition_point-place.result (0, 0)).0 ≢ c.args.key
other c within = elim c.else-place-rising.branch [
  | else-place-rising-via-then-place-rising+else-rising-place w ↦ w.if-rising-place.false
  | else-place-rising-via-else-place-rising w ↦ absurd (omega (arith, within, w.if-place-rising.false))
]

pub returns : goal.returns
returns c =
    let point = c.partition_point-place.ensures.partitioned (λ e. nat_lt e.0 c.args.key) (always_returns_same _ _ _ (λ a r f k. search (rules, of_calls))) (parted c.args.rising.now c.args.key c.requires) in
    sym (no_place c.args.rising.now c.args.key c.partition_point-place.result c.requires point (other c))

use Rattle.std.proofs.Common.{◌≡◌, ℕ, ◌+◌, ◌-◌, ◌^◌, max, min, ap, ◌∙◌}
use Rattle.sd_update.specs.Changing.{owed_then}
use Rattle.sd_state.specs.Complexes.{parts}
use Rattle.sd_state.specs.Parts.{Parts, owed_at}
use Rattle.sd_state.specs.Sums.{great_of, owed_where, owes_most}
use Rattle.sd_state.proofs.Summed.{passes, sum-capped}
use Rattle.sd_update.proofs.changes.lacks_own_lsns.Goals as goal

pub returns : goal.returns
returns g c =
    let p : Parts = parts c.args.c.now in
    let i : ℕ = c.args.t.now.inst in
    let own : ℕ = max (owed_at p i) (owed_then c.args.t.now p) in
    let owes : c.owed_where-owed.result ≡ min (owed_where i own p) (2 ^ 64 - 1) = c.owed_where-owed.ensures
    ∙ ap (λ (n : ℕ). min (owed_where i n p) (2 ^ 64 - 1)) c.owed_then.ensures ∙ sum-capped (owes_most p) i own (2 ^ 64 - 1) 8 in
    passes (great_of p) (owed_where i own p) c.saturating_add.result c.owed_where-owed.result
    c.saturating_add-2.result (c.saturating_add.ensures ∙ ap (λ n. min (n + 1) (2 ^ 64 - 1)) c.great.ensures) owes c.saturating_add-2.ensures

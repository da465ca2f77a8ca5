use Rattle.std.proofs.Common.{◌≡◌, ℕ, ◌-◌, ◌≤◌, get_or, true, ap, ◌∙◌, subst}
use Rattle.sd_pagelock.specs.Directory.{entry_at}
use Rattle.sd_pagelock.specs.Places.{holds}
use Rattle.sd_pool.specs.Buffers.{Buffers}
use Rattle.sd_state.specs.Complexes.{parts}
use Rattle.sd_drive.proofs.Rooms.{held-still}
use Rattle.sd_drive.proofs.Victims.{lent-holds, lent-some}
use Rattle.sd_drive.proofs.pull.leaver_of.Goals as goal

pub unwrap-page-requires : goal.unwrap-page-requires
unwrap-page-requires g c =
    let f = c.requires.full in
    let i = c.get.ensures in
    let pool : Buffers = c.index-pool.result.now in
    lent-some (g.G.Rig.seen c.args.c.now.rig) (g.G.Rig.leaves c.args.c.now.rig) (parts c.args.c.now) f.0 f.1 c.args.inst
    (subst (λ (k : ℕ). 1 ≤ k) i.value i.low) (subst (λ (k : ℕ). k ≤ 8) i.value i.high) pool
    (c.index-pool.ensures ∙ ap (λ (n : ℕ). get_or (parts c.args.c.now).pools (n - 1) pool) i.value)
    c.keeps-2.ensures f.2 c.victim.result (λ none. c.victim.ensures.empty.0 none)

pub returns-clause-held : goal.returns-clause-held
returns-clause-held g c =
    let f = c.requires.full in
    let i = c.get.ensures in
    let pool : Buffers = c.index-pool.result.now in
    lent-holds (g.G.Rig.seen c.args.c.now.rig) (g.G.Rig.leaves c.args.c.now.rig) (parts c.args.c.now) f.0 f.1 c.args.inst
    (subst (λ (k : ℕ). 1 ≤ k) i.value i.low) (subst (λ (k : ℕ). k ≤ 8) i.value i.high) pool
    (c.index-pool.ensures ∙ ap (λ (n : ℕ). get_or (parts c.args.c.now).pools (n - 1) pool) i.value)
    c.victim.result c.victim.ensures.held c.unwrap-page.result c.unwrap-page.ensures

pub returns-clause-still : goal.returns-clause-still
returns-clause-still g c =
    let f = c.requires.full in
    let i = c.get.ensures in
    let pool : Buffers = c.index-pool.result.now in
    let has : holds (entry_at (parts c.args.c.now).directory c.unwrap-page.result) c.args.inst ≡ true =
    lent-holds (g.G.Rig.seen c.args.c.now.rig) (g.G.Rig.leaves c.args.c.now.rig) (parts c.args.c.now) f.0 f.1 c.args.inst
    (subst (λ (k : ℕ). 1 ≤ k) i.value i.low) (subst (λ (k : ℕ). k ≤ 8) i.value i.high) pool
    (c.index-pool.ensures ∙ ap (λ (n : ℕ). get_or (parts c.args.c.now).pools (n - 1) pool) i.value)
    c.victim.result c.victim.ensures.held c.unwrap-page.result c.unwrap-page.ensures in
    held-still (entry_at (parts c.args.c.now).directory c.unwrap-page.result) c.args.inst (c.keeps.ensures.formed c.unwrap-page.result) has

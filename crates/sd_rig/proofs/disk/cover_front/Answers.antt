use Rattle.std.proofs.Common.{◌-◌, false, length, take, drop, ap, ◌∙◌, refl, arith, length-append, length-drop, length-take-le}
use Rattle.sd_rig.specs.Disk.{copies, length-copies}
use Rattle.sd_rig.proofs.Parts.{front-whole, whole-same}
use Rattle.sd_rig.proofs.disk.cover_front.Goals as goal

pub returns-clause-same : goal.returns-clause-same
returns-clause-same c =
    let base = c.args.base in
    let at = c.args.at in
    let seen = c.args.seen.now in
    whole-same at refl c.put_front.ensures.items c.clear_front.ensures.items
    ∙ front-whole at base seen c.args.synced.now.items (take (base - at) (drop at seen)) c.args.pending.now.items refl (omega arith) (omega (arith, c.requires.within))

pub returns-clause-even : goal.returns-clause-even
returns-clause-even c =
    let count = c.args.base - c.args.at in
    let mid = take count (drop c.args.at c.args.seen.now) in
    let pending = c.args.pending.now.items in
    let synced = c.args.synced.now.items in
    let within = c.requires.within in
    let marks = ap length c.clear_front.ensures.items ∙ length-append (copies count false) pending in
    let bytes = ap length c.put_front.ensures.items ∙ length-append mid synced in
    let size = length-take-le count (drop c.args.at c.args.seen.now) (omega (arith, length-drop c.args.at c.args.seen.now)) in
    let size' = length-copies count false in
    omega (arith, c.requires.even)

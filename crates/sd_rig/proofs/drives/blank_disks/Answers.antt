use Rattle.std.proofs.Common.{◌≡◌, ◌++◌, ◌∷◌, [], ℕ, List, map, ap, ◌∙◌, sym, arith}
use Rattle.std.proofs.lemmas.List.FromFn.{map-range_with_len_more}
use Rattle.std.specs.List.{range_with_len}
use Rattle.sd_rig.specs.Devices.{device_len}
use Rattle.sd_rig.specs.Disk.{DiskState, blank}
use Rattle.sd_rig.specs.Replay.{blanks}
use Rattle.sd_rig.proofs.drives.blank_disks.Goals as goal

pub loop-dev-preserved : goal.loop-dev-preserved
loop-dev-preserved c =
    let f : ℕ → DiskState = λ d. blank (device_len d) in
    let made : c.in_ok-blank.field-0 ≡ f c.loop-dev.dev = c.in_ok-blank.ensures ∙ ap blank c.device_len.ensures in
    c.in_ok-push.ensures.items
    ∙ ap (λ (l : List DiskState). l ++ c.in_ok-blank.field-0 ∷ []) c.loop-dev.invariant
    ∙ ap (λ (k : DiskState). map f (range_with_len 0 c.loop-dev.dev) ++ k ∷ []) made
    ∙ sym (map-range_with_len_more f 0 c.loop-dev.dev c.loop-dev.dev (omega arith))

pub returns : goal.returns
unfolding blanks
returns c =
    let end : c.loop-dev.dev ≡ 9 = omega arith in
    c.loop-dev.invariant ∙ ap (λ n. map (λ (d : ℕ). blank (device_len d)) (range_with_len 0 n)) end

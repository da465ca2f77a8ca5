use Rattle.std.proofs.Common.{List, length, sym, subst}
use Rattle.sd_rig.specs.Devices.{IsOneStep, MayTear}
use Rattle.sd_rig.specs.Disk.{DiskState}
use Rattle.sd_rig.specs.History.{Event}
use Rattle.sd_rig.specs.Replay.{LeftSince, left_of}
use Rattle.sd_rig.specs.Rigs.{devices, done}
use Rattle.sd_filerig.specs.Mirror.{mirror}
use Rattle.sd_filerig.proofs.Torn.{tear_either}
use Rattle.sd_filerig.proofs.file_rig.FileRigRig.write.Goals as goal

pub returns-then-not-write_file-clause-torn_err : goal.returns-then-not-write_file-clause-torn_err
returns-then-not-write_file-clause-torn_err c =
    let zero = mirror c.args.self.now in
    let keeps = c.fail-then-not-write_file.ensures.keeps in
    subst (λ (ks : List DiskState). MayTear c.args.at (length c.args.bytes.now) (left_of (devices zero) c.args.dev) (left_of ks c.args.dev)) (sym keeps.devices_stay)
    (tear_either c.write-answer.result c.args.at (length c.args.bytes.now) _ _ (λ bytes left. left.are_bytes) c.write-answer.ensures.torn c.write-answer.ensures.torn_err)

pub returns-then-not-write_file-clause-step : goal.returns-then-not-write_file-clause-step
returns-then-not-write_file-clause-step c =
    let zero = mirror c.args.self.now in
    let keeps = c.fail-then-not-write_file.ensures.keeps in
    subst (λ (es : List Event). IsOneStep (length (done zero)) (LeftSince es) (left_of (devices zero)) (left_of (devices c.fail-then-not-write_file.new.self))) (sym keeps.record_stays)
    (subst (λ (ks : List DiskState). IsOneStep (length (done zero)) (LeftSince (done c.write-answer.new.self)) (left_of (devices zero)) (left_of ks)) (sym keeps.devices_stay) c.write-answer.ensures.step)

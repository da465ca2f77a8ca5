use Rattle.std.proofs.Common.{refl, sym, subst}
use Rattle.sd_state.specs.Parts.{Parts}
use Rattle.sd_state.specs.Fresh.{IsFresh}
use Rattle.sd_moves.proofs.blanks.blank.Goals as goal

pub returns : goal.returns
returns c =
    let found = c.in_ok-nothing.ensures in
    subst (λ (p : Parts). IsFresh c.args.frames p) (sym c.in_ok-filled.ensures) (record {
      logs = found.logs;
      pools = refl;
      txns = found.txns;
      statuses = found.statuses;
      epochs = found.epochs;
      masters = found.masters;
      checks = refl;
      others = refl;
      owed = found.owed;
      loose = refl;
      free = found.free;
      clean = found.clean;
      still = found.still;
      unasked = found.unasked;
      unlocked = found.unlocked;
      unwaited = found.unwaited;
      disk_lsn = found.disk_lsn;
      due = refl;
    })

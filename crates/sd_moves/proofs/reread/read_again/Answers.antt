use Rattle.std.proofs.Common.{◌≡◌, ◌≤◌, List, ap, ◌∙◌, map, subst, sym}
use Rattle.sd_log.specs.declared.placed.Placed.{Placed}
use Rattle.sd_log.specs.Logs.{LogState, StandsOn, flats, scanned}
use Rattle.sd_logrec.specs.Kept.{Master}
use Rattle.sd_logrec.specs.View.{Rec}
use Rattle.sd_chain.specs.ChecksKept.{IsRead}
use Rattle.sd_chain.specs.Logs.{after_records, base_at}
use Rattle.sd_moves.specs.Settling.{IsFoundAgain, IsRelisted}
use Rattle.sd_moves.proofs.SettledRead.{epoch-read, flats-base, owed-read, tidy-read}
use Rattle.sd_moves.proofs.reread.read_again.Goals as goal

pub table_and_owed-requires-clause-tidy : goal.table_and_owed-requires-clause-tidy
table_and_owed-requires-clause-tidy g c =
    let seen = g.G.Rig.seen c.args.rig.now in
    let i = c.args.i in
    let log : LogState = c.in_ok-read.read in
    let low : 1 ≤ i = c.keeps.ensures.low in
    let high : i ≤ 8 = c.keeps.ensures.high in
    let read : IsRead (seen i) log = record {
      start = c.in_ok-read.ensures.log.1 ∙ ap (λ (m : Master). m.start) c.in_ok-master.ensures.master;
      stands = subst (StandsOn log) (c.choose_master.ensures.stays.reads i) c.in_ok-read.ensures.whole;
      tail = c.in_ok-read.ensures.log.2;
    } in
    tidy-read i seen log low high c.requires read

pub returns-clause-found : goal.returns-clause-found
returns-clause-found g c =
    let seen = g.G.Rig.seen c.args.rig.now in
    let i = c.args.i in
    let log : LogState = c.in_ok-read.read in
    let low : 1 ≤ i = c.keeps.ensures.low in
    let high : i ≤ 8 = c.keeps.ensures.high in
    let read : IsRead (seen i) log = record {
      start = c.in_ok-read.ensures.log.1 ∙ ap (λ (m : Master). m.start) c.in_ok-master.ensures.master;
      stands = subst (StandsOn log) (c.choose_master.ensures.stays.reads i) c.in_ok-read.ensures.whole;
      tail = c.in_ok-read.ensures.log.2;
    } in
    let base : flats (scanned log) ≡ base_at log = flats-base i seen log low high c.requires read in
    let same : c.in_ok-log.log ≡ log = c.in_ok-log.ensures in
    subst (λ (l : LogState). IsFoundAgain i (seen i) c.args.old.now record { log = l; table = c.in_ok-table.table; epoch = c.last_epoch-epoch.result; count = c.in_ok-master.master.count; owed = c.in_ok-table.owed }) (sym same)
    record {
      log = read;
      inst = c.in_ok-read.ensures.log.0;
      spelled = c.in_ok-read.ensures.spelled;
      table = subst (λ (xs : List Rec). IsRelisted i xs c.args.old.now c.in_ok-table.table) base c.in_ok-table.ensures.table;
      epoch = epoch-read i seen log low high c.requires read c.in_ok-master.master.epoch
          (ap (λ (m : Master). m.epoch) c.in_ok-master.ensures.master) c.last_epoch-epoch.result
          (λ past is. subst (λ (ps : List Placed). c.last_epoch-epoch.result ≡ (after_records past (map (λ p. p.rec) ps)).epoch)
          c.scan.ensures (c.last_epoch-epoch.ensures past is));
      count = ap (λ (m : Master). m.count) c.in_ok-master.ensures.master;
      owed = owed-read i seen log low high c.requires read c.in_ok-table.owed c.in_ok-table.ensures.owed;
    }

use Rattle.std.proofs.Common.{◌≡◌, ℕ, List, None, false, refl, sym, ap, ◌∙◌, subst, arith}
use Rattle.std.specs.Prelude.{Result, IfErr, IsSome}
use Rattle.std.specs.Global.{Box}
use Rattle.std.proofs.lemmas.Result.{err_from_is_err_and}
use Rattle.sd_page.specs.Page.{Page}
use Rattle.sd_pagelock.specs.Directory as directory
use Rattle.sd_pagelock.specs.Directory.{DirectoryState, entry_at}
use Rattle.sd_pagelock.specs.Places.{Formed, PageEntry}
use Rattle.sd_pagelock.specs.Rows.{written}
use Rattle.sd_pool.specs.Buffers.{image_at}
use Rattle.sd_rig.specs.Spans.{elapses-then, span-then}
use Rattle.sd_chain.specs.Bytes.{disk_page}
use Rattle.sd_chain.specs.Images.{all_kept}
use Rattle.sd_chain.specs.Named.{version_of}
use Rattle.sd_chain.specs.Logs.{tails_of}
use Rattle.sd_state.specs.Complexes.{parts, unboxed}
use Rattle.sd_state.specs.Good.{Good}
use Rattle.sd_state.specs.Images.{Stands, log_by}
use Rattle.sd_state.specs.Laws.{newest_of}
use Rattle.sd_state.specs.Locking.{IsSet}
use Rattle.sd_state.specs.Parts.{Parts, log_at, pool_at}
use Rattle.sd_state.proofs.Unboxed.{image-unboxed}
use Rattle.sd_moves.specs.Putting.{MayPut, SameVersions, left_after, with_loose_disk}
use Rattle.sd_moves.specs.declared.writing.Unput.{Unput}
use Rattle.sd_moves.proofs.PutCalls.{clean-good, duty-copy, forced-still, left-again, not-err, same-then}
use Rattle.sd_moves.proofs.writing.put_page.Goals as goal

pub write_newest-requires-clause-may : goal.write_newest-requires-clause-may
write_newest-requires-clause-may g c =
    let p : Parts = parts c.args.c.now in
    let settled : parts c.settle_disk.new.c ≡ with_loose_disk false p =
    not-err c.settle_disk.result _ c.if-is_err.ensures.value c.settle_disk.ensures.settled in
    subst (MayPut c.args.p c.args.i) (sym settled)
    (record { changed = c.requires.changed; duty = c.requires.duty; forced = forced-still c.args.i false p c.requires.forced })

pub write_newest-requires-clause-held : goal.write_newest-requires-clause-held
write_newest-requires-clause-held g c =
    let r = g.G.Rig in
    let laws = g.met.G.Rig in
    let old = c.args.c.now.rig in
    let synced = c.settle_disk.new.c.rig in
    let p : Parts = parts c.args.c.now in
    let settled : parts c.settle_disk.new.c ≡ with_loose_disk false p =
    not-err c.settle_disk.result _ c.if-is_err.ensures.value c.settle_disk.ensures.settled in
    let formed : Formed (entry_at p.directory c.args.p) =
    subst (λ (d : DirectoryState (Box Page)). Formed (entry_at d c.args.p)) c.settle_disk.ensures.directory
    (c.keeps.ensures.formed c.args.p) in
    let good : Good (r.seen synced) (r.leaves synced) c.requires.good.0 (with_loose_disk false p) c.requires.good.1 =
    subst (λ (x : Parts). Good (r.seen synced) (r.leaves synced) c.requires.good.0 x c.requires.good.1) settled
    (c.settle_disk.ensures.good c.requires.good.0 c.requires.good.1 c.requires.good.2) in
    subst (λ (x : Parts). IsSome (image_at (pool_at x c.args.i) c.args.p)) (sym settled)
    (subst IsSome (sym (duty-copy c.args.p c.args.i (r.seen synced) (r.leaves synced) c.requires.good.0 (with_loose_disk false p)
    c.requires.good.1 good formed c.requires.duty)) refl)

pub returns-in_err-write_newest-clause-images : goal.returns-in_err-write_newest-clause-images
returns-in_err-write_newest-clause-images g c pend m good =
    let r = g.G.Rig in
    let laws = g.met.G.Rig in
    let old = c.args.c.now.rig in
    let synced = c.settle_disk.new.c.rig in
    let p : Parts = parts c.args.c.now in
    let settled : parts c.settle_disk.new.c ≡ with_loose_disk false p =
    not-err c.settle_disk.result _ c.if-is_err.ensures.value c.settle_disk.ensures.settled in
    let new = c.write_newest.new.c.rig in
    span-then (r.moment old) (r.moment synced) (r.moment new) (r.since synced) (r.since new) (Stands m pend)
    c.settle_disk.ensures.time.later c.write_newest.ensures.time (c.settle_disk.ensures.images pend m good)
    (c.write_newest.ensures.images pend m (c.settle_disk.ensures.good pend m good))

pub returns-in_err-write_newest-clause-time : goal.returns-in_err-write_newest-clause-time
returns-in_err-write_newest-clause-time g c =
    let r = g.G.Rig in
    let laws = g.met.G.Rig in
    let old = c.args.c.now.rig in
    let synced = c.settle_disk.new.c.rig in
    let p : Parts = parts c.args.c.now in
    let settled : parts c.settle_disk.new.c ≡ with_loose_disk false p =
    not-err c.settle_disk.result _ c.if-is_err.ensures.value c.settle_disk.ensures.settled in
    let new = c.write_newest.new.c.rig in
    elapses-then (r.moment old) (r.moment synced) (r.moment new) (r.since old) (r.since synced) (r.since new)
    (λ t u img le s. laws.earlier new t u img le s) c.settle_disk.ensures.time c.write_newest.ensures.time

pub returns-in_err-write_newest-clause-errors : goal.returns-in_err-write_newest-clause-errors
returns-in_err-write_newest-clause-errors g c =
    let r = g.G.Rig in
    let laws = g.met.G.Rig in
    let old = c.args.c.now.rig in
    let synced = c.settle_disk.new.c.rig in
    let p : Parts = parts c.args.c.now in
    let settled : parts c.settle_disk.new.c ≡ with_loose_disk false p =
    not-err c.settle_disk.result _ c.if-is_err.ensures.value c.settle_disk.ensures.settled in
    let e : Unput = c.in_err-write_newest.field-0.0 in
    let from = err_from_is_err_and c.from_residual.result c.from_residual.ensures.1 in
    subst (λ (x : Result (Unit {0}) Unput). IfErr x (λ (y : Unput). parts c.write_newest.new.c ≡ left_after y p)) (sym from.1)
    (subst (λ (y : Unput). parts c.write_newest.new.c ≡ left_after y p) (sym from.2)
    (c.in_err-write_newest.ensures.errors ∙ ap (left_after e) settled ∙ left-again e p))

pub returns-in_err-write_newest-clause-versions : goal.returns-in_err-write_newest-clause-versions
returns-in_err-write_newest-clause-versions g c moved keeps q =
    let r = g.G.Rig in
    let laws = g.met.G.Rig in
    let old = c.args.c.now.rig in
    let synced = c.settle_disk.new.c.rig in
    let p : Parts = parts c.args.c.now in
    let settled : parts c.settle_disk.new.c ≡ with_loose_disk false p =
    not-err c.settle_disk.result _ c.if-is_err.ensures.value c.settle_disk.ensures.settled in
    let new = c.write_newest.new.c.rig in
    subst (λ (x : Parts). SameVersions (r.seen synced) (r.seen new) x) settled c.write_newest.ensures.versions moved keeps q
    ∙ ap (λ (bytes : List ℕ). version_of (tails_of (log_by p moved)) (disk_page bytes) keeps q) (c.settle_disk.ensures.reads 0)

pub returns-clause-place : goal.returns-clause-place
returns-clause-place g c =
    let places : DirectoryState Page = unboxed c.set.new.self in
    let same : c.write_newest.new.c.directory ≡ c.args.c.now.directory =
    c.write_newest.ensures.directory ∙ c.settle_disk.ensures.directory in
    let moves = c.set.ensures in
    let to : PageEntry = written (entry_at c.write_newest.new.c.directory c.args.p) in
    subst (λ (d : DirectoryState (Box Page)). IsSet c.args.p (written (entry_at (unboxed d) c.args.p)) None (unboxed d) places)
    same
    (subst (λ (e : PageEntry). IsSet c.args.p e None (unboxed c.write_newest.new.c.directory) places)
    (c.written.ensures ∙ ap written c.entry-place.ensures)
    (record {
      entry = moves.here;
      rec_lsn = moves.rec_lsn;
      asks = moves.asks;
      others = moves.others;
      other_rec_lsns = moves.other_rec_lsns;
      other_asks = moves.other_asks;
    }))

pub returns-clause-moving : goal.returns-clause-moving
returns-clause-moving g c q =
    let places : DirectoryState Page = unboxed c.set.new.self in
    let same : c.write_newest.new.c.directory ≡ c.args.c.now.directory =
    c.write_newest.ensures.directory ∙ c.settle_disk.ensures.directory in
    image-unboxed c.args.c.now.directory c.set.new.self q (c.set.ensures.images q
    ∙ ap (λ (d : DirectoryState (Box Page)). directory.moving_image_at d q) same)

pub returns-clause-clean : goal.returns-clause-clean
returns-clause-clean g c =
    let r = g.G.Rig in
    let laws = g.met.G.Rig in
    let old = c.args.c.now.rig in
    let synced = c.settle_disk.new.c.rig in
    let p : Parts = parts c.args.c.now in
    let settled : parts c.settle_disk.new.c ≡ with_loose_disk false p =
    not-err c.settle_disk.result _ c.if-is_err.ensures.value c.settle_disk.ensures.settled in
    c.in_ok-write_newest.ensures.there
    ∙ ap (λ (x : Parts). version_of (tails_of (log_at x)) (disk_page (r.seen synced 0)) all_kept c.args.p) settled
    ∙ ap (λ (bytes : List ℕ). version_of (tails_of (log_at p)) (disk_page bytes) all_kept c.args.p)
    (c.settle_disk.ensures.reads 0)

pub returns-clause-versions : goal.returns-clause-versions
returns-clause-versions g c moved keeps q =
    let r = g.G.Rig in
    let laws = g.met.G.Rig in
    let old = c.args.c.now.rig in
    let synced = c.settle_disk.new.c.rig in
    let p : Parts = parts c.args.c.now in
    let settled : parts c.settle_disk.new.c ≡ with_loose_disk false p =
    not-err c.settle_disk.result _ c.if-is_err.ensures.value c.settle_disk.ensures.settled in
    let new = c.write_newest.new.c.rig in
    subst (λ (x : Parts). SameVersions (r.seen synced) (r.seen new) x) settled c.write_newest.ensures.versions moved keeps q
    ∙ ap (λ (bytes : List ℕ). version_of (tails_of (log_by p moved)) (disk_page bytes) keeps q) (c.settle_disk.ensures.reads 0)

pub returns-clause-good : goal.returns-clause-good
returns-clause-good g c pend m good =
    let r = g.G.Rig in
    let laws = g.met.G.Rig in
    let old = c.args.c.now.rig in
    let synced = c.settle_disk.new.c.rig in
    let p : Parts = parts c.args.c.now in
    let settled : parts c.settle_disk.new.c ≡ with_loose_disk false p =
    not-err c.settle_disk.result _ c.if-is_err.ensures.value c.settle_disk.ensures.settled in
    let new = c.write_newest.new.c.rig in
    let places : DirectoryState Page = unboxed c.set.new.self in
    let formed : Formed (entry_at p.directory c.args.p) =
    subst (λ (d : DirectoryState (Box Page)). Formed (entry_at d c.args.p)) c.settle_disk.ensures.directory
    (c.keeps.ensures.formed c.args.p) in
    let stays : parts c.write_newest.new.c ≡ with_loose_disk false p = c.in_ok-write_newest.ensures.stays ∙ settled in
    let put_good : Good (r.seen new) (r.leaves new) pend (with_loose_disk false p) m =
    subst (λ (x : Parts). Good (r.seen new) (r.leaves new) pend x m) stays
    (c.write_newest.ensures.good pend m (c.settle_disk.ensures.good pend m good)) in
    let there : disk_page (r.seen new 0) c.args.p ≡ newest_of (r.seen new) (r.leaves new) p c.args.p =
    returns-clause-clean g c ∙ sym (returns-clause-versions g c (λ j. false) all_kept c.args.p) in
    subst (λ (x : Parts). Good (r.seen new) (r.leaves new) pend (record x { directory = places }) m) (sym stays)
    (clean-good c.args.p c.args.i places (r.seen new) (r.leaves new) pend p m put_good (laws.leaves_seen new 0 (omega arith))
    formed
    c.requires.idle (record { changed = c.requires.changed; duty = c.requires.duty; forced = c.requires.forced }) there
    (returns-clause-place g c) (returns-clause-moving g c))

pub returns-clause-images : goal.returns-clause-images
returns-clause-images g c pend m good =
    let r = g.G.Rig in
    let laws = g.met.G.Rig in
    let old = c.args.c.now.rig in
    let synced = c.settle_disk.new.c.rig in
    let p : Parts = parts c.args.c.now in
    let settled : parts c.settle_disk.new.c ≡ with_loose_disk false p =
    not-err c.settle_disk.result _ c.if-is_err.ensures.value c.settle_disk.ensures.settled in
    let new = c.write_newest.new.c.rig in
    span-then (r.moment old) (r.moment synced) (r.moment new) (r.since synced) (r.since new) (Stands m pend)
    c.settle_disk.ensures.time.later c.write_newest.ensures.time (c.settle_disk.ensures.images pend m good)
    (c.write_newest.ensures.images pend m (c.settle_disk.ensures.good pend m good))

pub returns-clause-time : goal.returns-clause-time
returns-clause-time g c =
    let r = g.G.Rig in
    let laws = g.met.G.Rig in
    let old = c.args.c.now.rig in
    let synced = c.settle_disk.new.c.rig in
    let p : Parts = parts c.args.c.now in
    let settled : parts c.settle_disk.new.c ≡ with_loose_disk false p =
    not-err c.settle_disk.result _ c.if-is_err.ensures.value c.settle_disk.ensures.settled in
    let new = c.write_newest.new.c.rig in
    elapses-then (r.moment old) (r.moment synced) (r.moment new) (r.since old) (r.since synced) (r.since new)
    (λ t u img le s. laws.earlier new t u img le s) c.settle_disk.ensures.time c.write_newest.ensures.time

pub returns-clause-others_leave : goal.returns-clause-others_leave
returns-clause-others_leave g c d ne =
    let r = g.G.Rig in
    let laws = g.met.G.Rig in
    let old = c.args.c.now.rig in
    let synced = c.settle_disk.new.c.rig in
    let p : Parts = parts c.args.c.now in
    let settled : parts c.settle_disk.new.c ≡ with_loose_disk false p =
    not-err c.settle_disk.result _ c.if-is_err.ensures.value c.settle_disk.ensures.settled in
    let new = c.write_newest.new.c.rig in
    same-then (r.leaves old d) (r.leaves synced d) (r.leaves new d) (c.settle_disk.ensures.others_leave d ne)
    (c.write_newest.ensures.others_leave d ne)

-- Bytes and LSNs are reserved for an undo and for the end of a transaction, and tested for each other record: for the laws
-- `undo`, `seal` and `append`.
use Rattle.std.proofs.Common.{◌≡◌, ⊎_elim, ℕ, suc, ◌+◌, ◌^◌, ◌<◌, ◌≤◌, Bool, true, false, cond, List, [], ◌∷◌, ◌++◌, length, sym, ap, subst, arith, append-nil, refl}
use Rattle.std.proofs.lemmas.Bool.{cases_eq}
use Rattle.sd_logrec.specs.declared.record.Record.{Record}
use Rattle.sd_logrec.specs.Kept.{master}
use Rattle.sd_logrec.specs.Spelling.{spelling}
use Rattle.sd_logrec.specs.View.{Rec, flat}
use Rattle.sd_page.specs.Page.{Page}
use Rattle.sd_log.specs.Logs.{forced, needed}
use Rattle.sd_chain.specs.Checks.{MayCome, lsn_of, owed, reserve}
use Rattle.sd_chain.specs.Records.{Each}
use Rattle.sd_chain.specs.Order.{speaks}
use Rattle.sd_chain.specs.Images.{Keeps}
use Rattle.sd_chain.proofs.Lists.{Each-append, Each-front, Each-weaker}
use Rattle.sd_chain.specs.Bytes.{disk_page}
use Rattle.sd_chain.specs.Logs.{HasRecord, Logs, Outcomes, all_at, base_at, kept_logs, may_of, most_owed, next_lsn, owed_with, past_at, tail_at, tails_of}
use Rattle.sd_chain.specs.Soundly.{HasLsns, IsSoundly}
use Rattle.sd_chain.specs.Appends.{Appends, IsNextEpoch, MayBeNext}
use Rattle.sd_chain.specs.ChecksKept.{EndKeeps, TestedKeeps, UndoKeeps}
use Rattle.sd_chain.proofs.Owing.{ends-speaks, stack-there}
use Rattle.sd_chain.proofs.Lsns.{last-at-most, last-is, last-low, owed-low, owed-most, version-low}
use Rattle.sd_chain.proofs.Room.{end-falls, reserved-room, undo-falls}
use Rattle.sd_chain.proofs.Appends.{append-soundly, kept-elsewhere, kept-old, kept-with, owed-moves, with-lsns}
use Rattle.sd_chain.proofs.Next.{may_come-there, next_epoch-other, speaks-no_start}

module _ (i : ℕ) (y : Record) (leaves : Outcomes) (old new : Logs) (s : IsSoundly leaves old) (a : Appends i y leaves old new)
    (page_lsn : ℕ) (lsn : lsn_of y ≡ next_lsn (old i) page_lsn)
    (own : (bytes : List ℕ) → leaves i bytes → MayCome i (past_at (master bytes) (forced (old i))) y)
    (epoch : (bytes : List ℕ) → leaves i bytes → IsNextEpoch (past_at (master bytes) (forced (old i))) y) where
  abbrev all : List Rec
  all = all_at (old i)

  next : (bytes : List ℕ) → leaves i bytes → MayBeNext i (past_at (master bytes) (forced (old i))) y
  next bytes l = let last = last-is (master bytes) (old i) in
      record { rises = omega (arith, last, lsn); own = own bytes l; epoch = epoch bytes l }

  -- A record for which bytes and an LSN were reserved: it ends what an earlier one began.
  pub reserved-keeps : HasRecord (flat y).txn all
      → (reserve (all ++ flat y ∷ []) + length (spelling y) + 5 ≤ reserve all) × (suc (owed (all ++ flat y ∷ [])) ≤ owed all)
      → ((keeps : Keeps) → keeps i ≡ true → page_lsn + owed_with (tails_of old) keeps < 2 ^ 62) → IsSoundly leaves new
  reserved-keeps there falls page =
      append-soundly i leaves old new y a.spare s a.log a.settled next
      (reserved-room i a.could.0 (old i) (length (spelling y)) (reserve (all ++ flat y ∷ []))
      (s.ready i a.log.low a.log.high a.could.0 a.could.1).sound_forced falls.0)
      (λ keeps is.
      let moves = owed-moves i old new y a.spare a.log keeps is in
      let fit = s.lsns keeps in
      let last = last-low (old i) (flat y).txn (owed_with (tails_of old) keeps) there
      (subst (Each (HasLsns (tails_of old) keeps)) (kept-old i old new y a.spare a.log keeps is)
      (fit.logs i a.log.low a.log.high)) in
      let page_low = page keeps is in
      let count = falls.1 in
      with-lsns i old new y a.spare a.log keeps (may_of leaves) is (omega (arith, moves, count))
      (omega (arith, moves, count, last, page_low, lsn)) fit)

  -- A record that was tested for: it isn't refused as LogFull with what is reserved behind it, nor as LsnEnd, where `great`
  -- is at or above each LSN.
  tested-keeps_of : (reserved great : ℕ) → reserve (all ++ flat y ∷ []) ≤ reserved
      → needed (old i) (length (spelling y)) reserved ≤ 1048576
      → ((j : ℕ) → 1 ≤ j → j ≤ 8 → Each (λ x. x.lsn ≤ great) (all_at (old j)))
      → ((p : ℕ) (x : Page) → may_of leaves p x → x.lsn ≤ great) → page_lsn ≤ great
      → great + 1 + most_owed (tails_of new) < 2 ^ 62 → IsSoundly leaves new
  tested-keeps_of reserved great within room below pages page end =
      append-soundly i leaves old new y a.spare s a.log a.settled next
      (omega (arith, within, room))
      (λ keeps is.
      let few = owed-most (tails_of new) keeps in
      let last = last-at-most (old i) great (below i a.log.low a.log.high) in
      record {
        logs = λ j lo hi. ⊎_elim
            (λ e. subst (λ (k : ℕ). Each (fits keeps) (kept_logs (tails_of new) keeps k)) (sym e)
            (subst (Each (fits keeps)) (sym (kept-with i old new y a.spare a.log keeps is))
            (Each-append (fits keeps) all (flat y ∷ [])
            (Each-weaker (λ x. x.lsn ≤ great) (fits keeps) (λ x h. omega (arith, h, few, end)) all
            (below i a.log.low a.log.high))
            (omega (arith, lsn, last, page, few, end), tt))))
            (λ ne. subst (Each (fits keeps)) (sym (kept-elsewhere i old new y a.spare a.log keeps j ne))
            (Each-weaker (λ x. x.lsn ≤ great) (fits keeps) (λ x h. omega (arith, h, few, end))
            (kept_logs (tails_of old) keeps j) (each_kept j (keeps j) (below j lo hi))))
            (cases_eq j i);
        pages = λ p x m. let h = pages p x m in omega (arith, h, few, end);
      })
    where
      fits : Keeps → Rec → Type 0
      fits keeps x = x.lsn + owed_with (tails_of new) keeps < 2 ^ 62

      each_kept : (j : ℕ) (b : Bool) → Each (λ x. x.lsn ≤ great) (all_at (old j))
          → Each (λ x. x.lsn ≤ great) (base_at (old j) ++ cond b (tail_at (old j)) [])
      each_kept j true a = a
      each_kept j false a = subst (Each (λ x. x.lsn ≤ great)) (sym (append-nil (base_at (old j))))
          (Each-front (λ x. x.lsn ≤ great) (base_at (old j)) (tail_at (old j)) a)

-- An undo: the image of its page is the newest version, so there is an LSN above that one's, too.
pub undo-keeps : (leaves : Outcomes) → UndoKeeps leaves
undo-keeps leaves i y old new version image s a u lsn safe none could newest =
    let spoken : speaks (flat y).kind ≡ true = ap speaks u.kind in
    let there = stack-there (flat y).txn (all_at (old i)) u.below u.top u.stack in
    reserved-keeps i y leaves old new s a image.lsn lsn
    (may_come-there leaves i y old a.log.low a.log.high s spoken there)
    (λ bytes l. next_epoch-other (past_at (master bytes) (forced (old i))) y (speaks-no_start y spoken))
    there (undo-falls (old i) y u)
    (λ keeps kept. subst (λ (x : Page). x.lsn + owed_with (tails_of old) keeps < 2 ^ 62) (newest keeps kept)
    (version-low (tails_of old) (may_of leaves) version (λ p. disk_page could.0 p) keeps (flat y).page safe
    (λ p. (could.0, could.1, refl)) none (s.lsns keeps)))

-- A Commit or an End.
pub end-keeps : (leaves : Outcomes) → EndKeeps leaves
end-keeps leaves i y old new s a e lsn =
    let spoken = ends-speaks (flat y).kind e.ends in
    reserved-keeps i y leaves old new s a 0 lsn
    (may_come-there leaves i y old a.log.low a.log.high s spoken e.there)
    (λ bytes l. next_epoch-other (past_at (master bytes) (forced (old i))) y (speaks-no_start y spoken))
    e.there (end-falls (old i) y e)
    (λ keeps kept.
    let each = subst (Each (HasLsns (tails_of old) keeps)) (kept-old i old new y a.spare a.log keeps kept)
    ((s.lsns keeps).logs i a.log.low a.log.high) in
    let low = owed-low (flat y).txn (owed_with (tails_of old) keeps) (all_at (old i)) e.there each in omega (arith, low))

-- any other record
pub tested-keeps : (leaves : Outcomes) → TestedKeeps leaves
tested-keeps leaves i y page_lsn old new s a t =
    tested-keeps_of i y leaves old new s a page_lsn t.lsn t.own t.epoch t.reserved t.great
    t.within t.room t.logs t.pages t.page t.fits

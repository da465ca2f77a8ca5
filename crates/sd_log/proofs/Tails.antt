-- A record that comes into a log's tail. It serves the goals of `append`.
use Rattle.std.proofs.Common.{◌≡◌, ℕ, ◌+◌, ◌*◌, ◌<◌, ◌≤◌, true, List, [], ◌∷◌, ◌++◌, length, refl, sym, ap, ◌∙◌, subst, arith, length-append}
use Rattle.std.specs.List.{AllByRecursion}
use Rattle.sd_logrec.specs.declared.record.Record.{Record}
use Rattle.sd_logrec.specs.declared.record.Record.TheVariants as records
use Rattle.sd_logrec.specs.Kept.{spelled}
use Rattle.sd_logrec.specs.Spelling.{HasSpelling, spelled_length, spelling}
use Rattle.sd_logrec.proofs.Lengths.{length-spelling}
use Rattle.sd_log.specs.declared.log.Log.TheInside.{Inside}
use Rattle.sd_log.specs.Buffers.{BufferState}
use Rattle.sd_log.specs.WrittenStates.{WrittenState, all_in}
use Rattle.sd_log.specs.LogInside.{IsLog}
use Rattle.sd_logrec.specs.View.{is_closing}
use Rattle.sd_log.specs.Logs.{AreForced, placed_groups, placed_tail}
use Rattle.sd_log.specs.ByPage.{changed_page, changed_pages}
use Rattle.sd_log.specs.PagesInside.{PagesState}
use Rattle.sd_log.proofs.Changes.{pages-more}
use Rattle.sd_log.proofs.Parted.{spelled-more}

pub all-more : {X : Type 0} (P : X → Type 0) (xs : List X) (x : X) → AllByRecursion P xs → P x → AllByRecursion P (xs ++ x ∷ [])
all-more P [] x all p = (p, tt)
all-more P (y ∷ ys) x all p = (all.0, all-more P ys x all.1 p)

least_length : (r : Record) → 9 ≤ spelled_length r
least_length (records.Start lsn epoch) = omega arith
least_length (records.Update lsn txn prev page slot capacity before after) = omega arith
least_length (records.Clr lsn txn prev undo_next page slot after) = omega arith
least_length (records.Commit lsn txn prev) = omega arith
least_length (records.End lsn txn prev) = omega arith
least_length (records.BeginCheck lsn) = omega arith
least_length (records.EndCheck lsn begin spans recs) = omega arith

closing_length : (r : Record) → is_closing r ≡ true → 26 ≤ spelled_length r
closing_length (records.Start lsn epoch) e = absurd (cc)
closing_length (records.Update lsn txn prev page slot capacity before after) e = absurd (cc)
closing_length (records.Clr lsn txn prev undo_next page slot after) e = omega arith
closing_length (records.Commit lsn txn prev) e = omega arith
closing_length (records.End lsn txn prev) e = omega arith
closing_length (records.BeginCheck lsn) e = absurd (cc)
closing_length (records.EndCheck lsn begin spans recs) e = absurd (cc)

pub least_spelling : (r : Record) → 9 ≤ length (spelling r)
least_spelling r = omega (arith, length-spelling r, least_length r)

pub closing_spelling : (r : Record) → is_closing r ≡ true → 26 ≤ length (spelling r)
closing_spelling r e = omega (arith, length-spelling r, closing_length r e)

-- what putting a record makes of the parts
pub record Puts (l : Inside) (r : Record) (kept : ℕ) (written : WrittenState) (pages : PagesState) (buffer : BufferState) : Type 0 where
  pub start_is : written.start ≡ l.written.start
  pub gate_is : written.gate ≡ l.written.gate
  pub groups_is : written.groups ≡ l.written.groups
  pub tail_is : written.tail ≡ l.written.tail ++ r ∷ []
  pub fits_record : HasSpelling r
  pub within : l.written.gate + 5 + length (spelled l.written.tail) + length (spelling r) + 1 ≤ 1048576
  pub kept_small : kept ≤ 1048576
  pub kept_text : kept ≤ written.text
  pub kept_buffer : length (spelled l.written.tail) + length (spelling r) + kept ≤ buffer.room
  pub kept_records : kept < 26 * (written.room + 1)
  pub kept_pages : kept < 26 * (pages.room + 1)
  pub chains_is : pages.chains ≡ l.pages.chains ++ changed_page r ∷ []

pub put_is : (l : Inside) (r : Record) (kept : ℕ) (written : WrittenState) (pages : PagesState) (buffer : BufferState)
    → IsLog l → Puts l r kept written pages buffer
    → IsLog (record { inst = l.inst; written = written; pages = pages; buffer = buffer; spare = kept })
put_is l r kept written pages buffer h p =
    let size : length (spelled written.tail) ≡ length (spelled l.written.tail) + length (spelling r) =
    ap (λ (rs : List Record). length (spelled rs)) p.tail_is ∙ ap length (spelled-more l.written.tail r)
    ∙ length-append (spelled l.written.tail) (spelling r) in
    let within = p.within in
    let gate = p.gate_is in
    let room = p.kept_buffer in
    record {
      spelled_ones = rw p.tail_is (all-more HasSpelling l.written.tail r h.spelled_ones p.fits_record);
      forced_are = rw (p.start_is, p.gate_is, p.groups_is) h.forced_are;
      gate_within = omega arith;
      fits = λ _. omega arith;
      spare_small = p.kept_small;
      spare_text = p.kept_text;
      spare_buffer = omega arith;
      spare_records = p.kept_records;
      spare_pages = p.kept_pages;
      chains_are = p.chains_is ∙ ap (λ (x : List ℕ). x ++ changed_page r ∷ []) h.chains_are
          ∙ sym (pages-more l.written.gate l.written.groups l.written.tail r)
          ∙ ap (λ (rs : List Record). changed_pages (placed_groups l.written.groups ++ placed_tail l.written.gate rs)) (sym p.tail_is)
          ∙ sym (rw (p.gate_is, p.groups_is) refl);
    }

-- what room for more makes of the parts
pub record Widens (l : Inside) (written : WrittenState) (pages : PagesState) (buffer : BufferState) : Type 0 where
  pub same : written ≡ record l.written { text = written.text; room = written.room }
  pub chains_is : pages.chains ≡ l.pages.chains
  pub text_room : l.written.text ≤ written.text
  pub record_room : l.written.room ≤ written.room
  pub page_room : l.pages.room ≤ pages.room
  pub buffer_room : l.buffer.room ≤ buffer.room

pub widened_log : (l : Inside) (written : WrittenState) (pages : PagesState) (buffer : BufferState)
    → IsLog l → Widens l written pages buffer
    → IsLog (record { inst = l.inst; written = written; pages = pages; buffer = buffer; spare = l.spare })
widened_log l written pages buffer h w =
    let size : length (spelled written.tail) ≡ length (spelled l.written.tail) =
    ap (λ (s : WrittenState). length (spelled s.tail)) w.same in
    let gate : written.gate ≡ l.written.gate = ap (λ (s : WrittenState). s.gate) w.same in
    let text_room = w.text_room in
    let record_room = w.record_room in
    let page_room = w.page_room in
    let buffer_room = w.buffer_room in
    let spare_text = h.spare_text in
    let spare_buffer = h.spare_buffer in
    let spare_records = h.spare_records in
    let spare_pages = h.spare_pages in
    record {
      spelled_ones = subst (λ (s : WrittenState). AllByRecursion HasSpelling s.tail) (sym w.same) h.spelled_ones;
      forced_are = subst (λ (s : WrittenState). AreForced s.start s.gate s.groups) (sym w.same) h.forced_are;
      gate_within = subst (λ (s : WrittenState). s.gate < 1048576) (sym w.same) h.gate_within;
      fits = λ some. let fits = h.fits (omega arith) in omega arith;
      spare_small = h.spare_small;
      spare_text = omega arith;
      spare_buffer = omega arith;
      spare_records = omega arith;
      spare_pages = omega arith;
      chains_are = w.chains_is ∙ h.chains_are ∙ sym (ap (λ (s : WrittenState). changed_pages (all_in s)) w.same);
    }

-- a tail whose spelling has no bytes
pub no_text : (rs : List Record) → length (spelled rs) ≡ 0 → rs ≡ []
no_text [] e = refl
no_text (r ∷ rs) e = let some = least_spelling r in absurd (omega (arith, e, length-append (spelling r) (spelled rs)))

-- one that has some has nine
pub least_text : (rs : List Record) → (length (spelled rs) ≡ 0 → ⊥) → 9 ≤ length (spelled rs)
least_text [] some = absurd (some refl)
least_text (r ∷ rs) some = omega (arith, least_spelling r, length-append (spelling r) (spelled rs))

-- each record has nine
pub least_bytes : (rs : List Record) → 9 * length rs ≤ length (spelled rs)
least_bytes [] = omega arith
least_bytes (r ∷ rs) = omega (arith, least_bytes rs, least_spelling r, length-append (spelling r) (spelled rs))

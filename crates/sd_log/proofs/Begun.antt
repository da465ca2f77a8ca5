-- A log without its first groups. It serves the goals of log.rt.
use Rattle.std.proofs.Common.{◌≡◌, ◌∙◌, ℕ, ◌≤◌, true, List, [], ◌∷◌, ◌++◌, length, drop, sym, ap, subst, arith, length-append}
use Rattle.std.specs.Prelude.{map}
use Rattle.std.specs.List.{AllByRecursion}
use Rattle.std.proofs.lemmas.Grind.{flat_map-append}
use Rattle.std.proofs.lemmas.List.{append-nil, drop-map, drop_at}
use Rattle.std.proofs.lemmas.List.Elements.{All-from_recursion, recursion_from_All}
use Rattle.sd_logrec.specs.Kept.{Group, spelled}
use Rattle.sd_logrec.specs.declared.record.Record.{Record}
use Rattle.sd_logrec.specs.Spelling.{HasSpelling}
use Rattle.sd_log.specs.ByPage.{changed_page, changed_pages}
use Rattle.sd_log.specs.declared.log.Log.TheInside.{Inside}
use Rattle.sd_log.specs.declared.placed.Placed.{Placed}
use Rattle.sd_log.specs.LogInside.{IsLog, log_view}
use Rattle.sd_log.specs.Logs.{AreForced, AreSpelled, LogState, begun_at, boundary, placed, placed_groups, placed_tail, scanned}
use Rattle.sd_log.specs.PagesInside.{PagesState}
use Rattle.sd_log.specs.WrittenStates.{Forgets, WrittenState}
use Rattle.sd_log.proofs.Counted.{few_records}
use Rattle.sd_log.proofs.Places.{behind_filter, placed_behind}

each_behind : {X : Type 0} (P : X → Type 0) (xs ys : List X) → AllByRecursion P (xs ++ ys) → AllByRecursion P ys
each_behind P [] ys all = all
each_behind P (x ∷ xs) ys all = each_behind P xs ys all.1

both : (before behind : List Group) → placed_groups (before ++ behind) ≡ placed_groups before ++ placed_groups behind
both before behind = flat_map-append (λ (g : Group). map (placed true) g.records) before behind

-- the groups behind a boundary stand as they did
pub forced_behind : (start gate : ℕ) (before behind : List Group) → AreForced start gate (before ++ behind) → AreForced (boundary behind gate) gate behind
forced_behind start gate before behind h = record {
  places = placed_behind start gate before behind h.places;
  spelled = All-from_recursion (λ (p : Placed). HasSpelling p.rec) (placed_groups behind)
      (each_behind (λ (p : Placed). HasSpelling p.rec) (placed_groups before) (placed_groups behind)
      (recursion_from_All (λ (p : Placed). HasSpelling p.rec) (placed_groups before ++ placed_groups behind) (subst AreSpelled (both before behind) h.spelled)));
}

pub gone_few : (l : Inside) (place gone : ℕ) (written : WrittenState) → IsLog l → Forgets place gone l.written written → gone ≤ 116508
gone_few l place gone written h f =
    omega (
      arith,
      few_records l h,
      f.count_is,
      ap (λ (gs : List Group). length (placed_groups gs)) f.parts,
      ap length (both f.before written.groups),
      length-append (placed_groups f.before) (placed_groups written.groups),
      length-append (placed_groups l.written.groups) (placed_tail l.written.gate l.written.tail),
    )

module _ (l : Inside) (place gone : ℕ) (written : WrittenState) (pages : PagesState) (h : IsLog l) (bare : l.written.tail ≡ []) (f : Forgets place gone l.written written)
    (chains : pages.chains ≡ drop gone l.pages.chains) (room : l.pages.room ≤ pages.room) where
  -- all records, where there is no tail
  scanned_is : scanned (log_view l) ≡ placed_groups f.before ++ placed_groups written.groups
  scanned_is =
      ap (λ (rs : List Record). placed_groups l.written.groups ++ placed_tail l.written.gate rs) bare ∙ append-nil (placed_groups l.written.groups)
      ∙ ap placed_groups f.parts ∙ both f.before written.groups

  left : placed_groups written.groups ++ placed_tail written.gate written.tail ≡ placed_groups written.groups
  left = ap (λ (rs : List Record). placed_groups written.groups ++ placed_tail written.gate rs) f.tail ∙ append-nil (placed_groups written.groups)

  chains_are : pages.chains ≡ changed_pages (placed_groups written.groups ++ placed_tail written.gate written.tail)
  chains_are =
      chains ∙ ap (drop gone) (h.chains_are ∙ ap changed_pages scanned_is)
      ∙ drop-map (λ (p : Placed). changed_page p.rec) gone (placed_groups f.before ++ placed_groups written.groups)
      ∙ ap changed_pages (drop_at (placed_groups f.before) (placed_groups written.groups) gone (sym f.count_is)) ∙ ap changed_pages (sym left)

  forced_are : AreForced written.start written.gate written.groups
  forced_are =
      subst (λ start. AreForced start written.gate written.groups) (sym (f.start ∙ f.place_is))
      (subst (λ gate. AreForced (boundary written.groups l.written.gate) gate written.groups) (sym f.gate)
      (forced_behind l.written.start l.written.gate f.before written.groups (subst (AreForced l.written.start l.written.gate) f.parts h.forced_are)))

  pub begun_log : IsLog (record { inst = l.inst; written = written; pages = pages; buffer = l.buffer; spare = l.spare })
  begun_log =
      let none : length (spelled written.tail) ≡ 0 = ap (λ (rs : List Record). length (spelled rs)) f.tail in
      let within = h.gate_within in
      let text = f.text in
      let more = f.room in
      let spare_text = h.spare_text in
      let spare_buffer = h.spare_buffer in
      let spare_records = h.spare_records in
      let spare_pages = h.spare_pages in
      record {
        spelled_ones = subst (AllByRecursion HasSpelling) (sym f.tail) tt;
        forced_are = forced_are;
        gate_within = omega (arith, f.gate);
        fits = λ some. absurd (omega arith);
        spare_small = h.spare_small;
        spare_text = omega arith;
        spare_buffer = omega arith;
        spare_records = omega arith;
        spare_pages = omega arith;
        chains_are = chains_are;
      }

  pub begun_view : log_view (record { inst = l.inst; written = written; pages = pages; buffer = l.buffer; spare = l.spare }) ≡ begun_at place (log_view l)
  begun_view =
      let state : ℕ → ℕ → List Group → List Record → LogState = λ start gate gs rs.
      record { inst = l.inst; start = start; gate = gate; groups = gs; tail = rs; spare = l.spare } in
      ap (λ start. state start written.gate written.groups written.tail) f.start
      ∙ ap (λ gate. state place gate written.groups written.tail) f.gate
      ∙ ap (λ (rs : List Record). state place l.written.gate written.groups rs) (f.tail ∙ sym bare)
      ∙ ap (λ (gs : List Group). state place l.written.gate gs l.written.tail) (sym filtered)
    where
      filtered : (begun_at place (log_view l)).groups ≡ written.groups
      filtered =
          ap (λ p. (begun_at p (log_view l)).groups) f.place_is
          ∙ ap (λ (gs : List Group). (begun_at (boundary written.groups l.written.gate) (record (log_view l) { groups = gs })).groups) f.parts
          ∙ behind_filter l.written.start l.written.gate f.before written.groups (subst (AreForced l.written.start l.written.gate) f.parts h.forced_are).places

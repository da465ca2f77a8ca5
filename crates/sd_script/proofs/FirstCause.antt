-- A line that reads has no cause to be bad, and one has one first cause. It serves the laws on causes, and goals of causes.rt.
use Rattle.std.proofs.Common.{◌≡◌, ℕ, ℤ, zero, suc, ◌+◌, ◌<◌, ◌≤◌, ◌^◌, List, [], ◌∷◌, length, get_or, None, Some, refl, sym, ap, ◌∙◌, subst, arith, ⊎_elim}
use Rattle.std.proofs.lemmas.Bool.{cases_lt}
use Rattle.std.specs.Prelude.{codes}
use Rattle.std.specs.Fmt.{decimal, signed_decimal}
use Rattle.sd_base.specs.declared.ids.Rid.{Rid}
use Rattle.sd_base.specs.declared.place.Mode.{Mode}
use Rattle.sd_base.specs.declared.trouble.Pick.{Pick}
use Rattle.sd_base.specs.declared.refusal.LineError.{LineError}
use Rattle.sd_base.specs.declared.refusal.LineError.TheVariants as cause
use Rattle.sd_script.specs.declared.kinds.Fixed.{Fixed}
use Rattle.sd_script.specs.declared.kinds.Part.{Part}
use Rattle.sd_script.specs.declared.kinds.Part.TheVariants as part
use Rattle.sd_script.specs.declared.kinds.LineKind.{LineKind}
use Rattle.sd_script.specs.declared.kinds.LineKind.TheVariants as kind
use Rattle.sd_script.specs.declared.line.Form.{Form}
use Rattle.sd_script.specs.declared.line.Form.TheVariants.{Complex, Begin, Read, Write, Add, Insert, Delete, Save, Back, Rollback, Commit, Ask, Give, Take, Evict, Flush, Force, CheckBegin, CheckEnd, Fail, Fuse, Fault, FailAll, Recover, Join, Reopen, RecoverAll, JoinAll, Where, Table}
use Rattle.sd_script.specs.declared.line.Line.{Line}
use Rattle.sd_script.specs.Causes.{ArePrinted, Fit, Holds, IsAllowed, IsCause, IsFirst, IsMisplaced, Passes, Suits, rank}
use Rattle.sd_script.specs.Forms.{IsAmount, IsDigit, IsForm, IsInst, IsName, IsRid, IsValue, form_words, mode_word, pick_word, rid_word}
use Rattle.sd_script.specs.Kinds.{parts_of, text_of}
use Rattle.sd_script.specs.Order.{Follows, IsBegun, IsOfBegun, insts_of, pages_of, table_count}
use Rattle.sd_script.specs.Reading.{ReadsAs}
use Rattle.sd_script.specs.Words.{words_of}
use Rattle.sd_script.proofs.Plain.{amount_plain, misplaced_plain, passes_stands, table_plain}
use Rattle.sd_script.proofs.Shapes.{inst_digit, no_verb}

-- ---- what passes the last cause passes each

up : (lines : List Line) (c : LineError) (p : Part) (before word : List ℕ) → Suits lines cause.Unknown p before word
    → Suits lines c p before word
up lines cause.Word p before word s = s.0
up lines cause.Number p before word s = (s.0, s.1)
up lines cause.Name p before word s = (s.0, s.1, s.2)
up lines cause.Place p before word s = (s.0, s.1, s.2, s.3)
up lines cause.Used p before word s = (s.0, s.1, s.2, s.3, s.4)
up lines cause.Unknown p before word s = s
up lines cause.Size p before word s = tt
up lines cause.Byte p before word s = tt
up lines cause.Order p before word s = tt

pub fit_up : (lines : List Line) (c : LineError) (parts : List Part) (before : List ℕ) (words : List (List ℕ))
    → Fit lines cause.Unknown parts before words → Fit lines c parts before words
fit_up lines c [] before [] fit = tt
fit_up lines c [] before (w ∷ words) fit = absurd fit
fit_up lines c (p ∷ parts) before [] fit = absurd fit
fit_up lines c (p ∷ parts) before (w ∷ words) fit = (up lines c p before w fit.0, fit_up lines c parts w words fit.1)

-- ---- the words of a form that may stand here, as those of its kind

module _ (lines : List Line) (before : List ℕ) where
  itself : (fixed : Fixed) → Suits lines cause.Unknown (part.Fixed fixed) before (text_of fixed)
  itself fixed = (refl, tt, tt, tt, tt, tt)

  digit_alone : (b : ℕ) → IsDigit b → (k d : ℕ) → k < 1 → IsDigit (get_or (b ∷ []) k d)
  digit_alone b is zero d lt = is
  digit_alone b is (suc k) d lt = absurd (omega (arith, lt))

  lead : (i : ℕ) → IsInst i → i ≤ insts_of lines → Suits lines cause.Unknown part.Lead before (decimal i)
  lead i is le = (
    subst (λ (w : List ℕ). (k d : ℕ) → k < length w → IsDigit (get_or w k d)) (sym (inst_digit i is))
        (digit_alone (48 + i) (omega (arith, is), omega (arith, is))),
    (i, is.0, omega (arith, is), refl),
    tt,
    (i, is, le, refl),
    tt,
    tt,
  )

  inst : (i : ℕ) → IsInst i → i ≤ insts_of lines → Suits lines cause.Unknown part.Inst before (decimal i)
  inst i is le = (tt, (i, is.0, omega (arith, is), refl), tt, (i, is, le, refl), tt, tt)

  failed : (i : ℕ) → IsInst i → Suits lines cause.Unknown part.Failed before (decimal i)
  failed i is = (tt, (i, is.0, omega (arith, is), refl), tt, (i, is, refl), tt, tt)

  number : (i : ℕ) → IsInst i → Suits lines cause.Unknown part.Insts before (decimal i)
  number i is = (tt, (i, is.0, omega (arith, is), refl), tt, tt, tt, tt)

  count : (n : ℕ) → (1 ≤ n) × (n ≤ 1024) → Suits lines cause.Unknown part.Count before (decimal n)
  count n is = (tt, (n, is.0, omega (arith, is), refl), tt, tt, tt, tt)

  begun : (name : List ℕ) (o : ℕ) → IsName name → IsOfBegun lines name o → Suits lines cause.Unknown part.Begun before name
  begun name o is of = (tt, tt, is, tt, tt, (o, of))

  begins : (name : List ℕ) → IsName name → ¬ IsBegun name lines → Suits lines cause.Unknown part.Begins before name
  begins name is fresh = (tt, tt, is, tt, fresh, tt)

  mark : (name : List ℕ) → IsName name → Suits lines cause.Unknown part.Mark before name
  mark name is = (tt, tt, is, tt, tt, tt)

  page : (p : ℕ) → p < 1024 → p < pages_of lines → Suits lines cause.Unknown part.Page before (decimal p)
  page p low lt = (tt, (p, omega arith, omega (arith, low), refl), tt, (p, low, lt, refl), tt, tt)

  slot : (r : Rid) → IsRid r → r.page < pages_of lines → Suits lines cause.Unknown part.Record before (rid_word r)
  slot r is lt = (tt, (r, omega (arith, is.0), is.1, refl), tt, (r, is, lt, refl), tt, tt)

  amount : (z : ℤ) → IsAmount z → Suits lines cause.Unknown part.Amount before (signed_decimal z)
  amount z is = (tt, (z, is, amount_plain z is), tt, tt, tt, tt)

  value : (v : List ℕ) → IsValue v → Suits lines cause.Unknown part.Value before v
  value v is = (is, tt, tt, tt, tt, tt)

  room : (c : ℕ) → (length before ≤ c) × (c ≤ 65535) → Suits lines cause.Unknown part.Capacity before (decimal c)
  room c is = (tt, (c, is.0, is.1, refl), tt, tt, tt, tt)

  mode : (m : Mode) → Suits lines cause.Unknown part.Mode before (mode_word m)
  mode m = ((m, refl), tt, tt, tt, tt, tt)

  pick : (p : Pick) → Suits lines cause.Unknown part.Pick before (pick_word p)
  pick p = ((p, refl), tt, tt, tt, tt, tt)

  calls : (n : ℕ) → n ≤ 1000000 → Suits lines cause.Unknown part.Calls before (decimal n)
  calls n le = (tt, (n, omega arith, omega (arith, le), refl), tt, tt, tt, tt)

  call : (n : ℕ) → (1 ≤ n) × (n ≤ 1000000) → Suits lines cause.Unknown part.Call before (decimal n)
  call n is = (tt, (n, is.0, omega (arith, is), refl), tt, tt, tt, tt)

  steps : (n : ℕ) → (1 ≤ n) × (n < 10 ^ 10) → Suits lines cause.Unknown part.Steps before (decimal n)
  steps n is = (tt, (n, is.0, omega (arith, is.1), refl), tt, tt, tt, tt)

pub passes : (lines : List Line) (f : Form) → IsForm f → Follows lines f → (k : LineKind) × Passes lines (form_words f) cause.Unknown k
passes lines (Complex i p k) is follows =
    (kind.Complex, ((refl, tt, tt, tt, tt, tt), (number lines (codes "complex") i is.0, (count lines (decimal i) p is.1, (count lines (decimal p) k is.2, tt)))))
passes lines (Begin i x) is follows =
    (kind.Begin, (lead lines [] i is.0 follows.0, ((refl, tt, tt, tt, tt, tt), (begins lines (codes "begin") x is.1 follows.1, tt))))
passes lines (Read x o r) is follows =
    (kind.Read, ((refl, tt, tt, tt, tt, tt), (begun lines (codes "read") x o is.0 follows.0, (slot lines (x) r is.1 follows.1, tt))))
passes lines (Write x o r v) is follows =
    (kind.Write, ((refl, tt, tt, tt, tt, tt), (begun lines (codes "write") x o is.0 follows.0, (slot lines (x) r is.1 follows.1, (value lines (rid_word r) v is.2, tt)))))
passes lines (Add x o r z) is follows =
    (kind.Add, ((refl, tt, tt, tt, tt, tt), (begun lines (codes "add") x o is.0 follows.0, (slot lines (x) r is.1 follows.1, (amount lines (rid_word r) z is.2, tt)))))
passes lines (Insert x o p v None) is follows =
    (kind.Insert, ((refl, tt, tt, tt, tt, tt), (begun lines (codes "insert") x o is.0 follows.0, (page lines (x) p is.1 follows.1, (value lines (decimal p) v is.2, tt)))))
passes lines (Insert x o p v (Some c)) is follows =
    (kind.InsertWithCapacity, ((refl, tt, tt, tt, tt, tt), (begun lines (codes "insert") x o is.0 follows.0, (page lines (x) p is.1 follows.1, (value lines (decimal p) v is.2, (room lines (v) c is.3, tt))))))
passes lines (Delete x o r) is follows =
    (kind.Delete, ((refl, tt, tt, tt, tt, tt), (begun lines (codes "delete") x o is.0 follows.0, (slot lines (x) r is.1 follows.1, tt))))
passes lines (Save x o s) is follows =
    (kind.Save, ((refl, tt, tt, tt, tt, tt), (begun lines (codes "save") x o is.0 follows, (mark lines (x) s is.1, tt))))
passes lines (Back x o s) is follows =
    (kind.Back, ((refl, tt, tt, tt, tt, tt), (begun lines (codes "back") x o is.0 follows, (mark lines (x) s is.1, tt))))
passes lines (Rollback x o) is follows =
    (kind.Rollback, ((refl, tt, tt, tt, tt, tt), (begun lines (codes "rollback") x o is follows, tt)))
passes lines (Commit x o) is follows =
    (kind.Commit, ((refl, tt, tt, tt, tt, tt), (begun lines (codes "commit") x o is follows, tt)))
passes lines (Ask i p m) is follows =
    (kind.Ask, (lead lines [] i is.0 follows.0, ((refl, tt, tt, tt, tt, tt), (page lines (codes "ask") p is.1 follows.1, (mode lines (decimal p) m, tt)))))
passes lines (Give i p) is follows =
    (kind.Give, (lead lines [] i is.0 follows.0, ((refl, tt, tt, tt, tt, tt), (page lines (codes "give") p is.1 follows.1, tt))))
passes lines (Take i p) is follows =
    (kind.Take, (lead lines [] i is.0 follows.0, ((refl, tt, tt, tt, tt, tt), (page lines (codes "take") p is.1 follows.1, tt))))
passes lines (Evict i p) is follows =
    (kind.Evict, (lead lines [] i is.0 follows.0, ((refl, tt, tt, tt, tt, tt), (page lines (codes "evict") p is.1 follows.1, tt))))
passes lines (Flush i p) is follows =
    (kind.Flush, (lead lines [] i is.0 follows.0, ((refl, tt, tt, tt, tt, tt), (page lines (codes "flush") p is.1 follows.1, tt))))
passes lines (Force i) is follows =
    (kind.Force, (lead lines [] i is follows, ((refl, tt, tt, tt, tt, tt), tt)))
passes lines (CheckBegin i) is follows =
    (kind.CheckBegin, (lead lines [] i is follows, ((refl, tt, tt, tt, tt, tt), ((refl, tt, tt, tt, tt, tt), tt))))
passes lines (CheckEnd i) is follows =
    (kind.CheckEnd, (lead lines [] i is follows, ((refl, tt, tt, tt, tt, tt), ((refl, tt, tt, tt, tt, tt), tt))))
passes lines (Fail i) is follows =
    (kind.Fail, ((refl, tt, tt, tt, tt, tt), (inst lines (codes "fail") i is follows, tt)))
passes lines (Fuse n) is follows =
    (kind.Fuse, ((refl, tt, tt, tt, tt, tt), (calls lines (codes "fuse") n is, tt)))
passes lines (Fault n) is follows =
    (kind.Fault, ((refl, tt, tt, tt, tt, tt), (call lines (codes "fault") n is, tt)))
passes lines (FailAll p) is follows =
    (kind.FailAll, ((refl, tt, tt, tt, tt, tt), ((refl, tt, tt, tt, tt, tt), (pick lines (codes "all") p, tt))))
passes lines (Recover i j None) is follows =
    (kind.Recover, ((refl, tt, tt, tt, tt, tt), (failed lines (codes "recover") i is.0, ((refl, tt, tt, tt, tt, tt), (inst lines (codes "by") j is.1 follows, tt)))))
passes lines (Recover i j (Some n)) is follows =
    (kind.RecoverInSteps, ((refl, tt, tt, tt, tt, tt), (failed lines (codes "recover") i is.0, ((refl, tt, tt, tt, tt, tt), (inst lines (codes "by") j is.1 follows, (steps lines (decimal j) n is.2, tt))))))
passes lines (Join i) is follows =
    (kind.Join, ((refl, tt, tt, tt, tt, tt), (inst lines (codes "join") i is follows, tt)))
passes lines Reopen is follows =
    (kind.Reopen, ((refl, tt, tt, tt, tt, tt), tt))
passes lines RecoverAll is follows =
    (kind.RecoverAll, ((refl, tt, tt, tt, tt, tt), ((refl, tt, tt, tt, tt, tt), tt)))
passes lines JoinAll is follows =
    (kind.JoinAll, ((refl, tt, tt, tt, tt, tt), ((refl, tt, tt, tt, tt, tt), tt)))
passes lines (Where p) is follows =
    (kind.Where, ((refl, tt, tt, tt, tt, tt), (page lines (codes "where") p is follows, tt)))
passes lines Table is follows =
    (kind.Table, ((refl, tt, tt, tt, tt, tt), tt))

-- ---- the first line, and the others

-- the first line is a complex line
pub first_form : (f : Form) → Follows [] f → IsForm f → (i : ℕ) × (p : ℕ) × (k : ℕ) × (f ≡ Complex i p k)
first_form (Complex i p k) follows is = (i, p, k, refl)
first_form (Begin i x) follows is = absurd (omega (arith, follows.0, is.0))
first_form (Read x o r) follows is = absurd (omega (arith, follows.1))
first_form (Write x o r v) follows is = absurd (omega (arith, follows.1))
first_form (Add x o r z) follows is = absurd (omega (arith, follows.1))
first_form (Insert x o p v c) follows is = absurd (omega (arith, follows.1))
first_form (Delete x o r) follows is = absurd (omega (arith, follows.1))
first_form (Save x o s) follows is = absurd (cc)
first_form (Back x o s) follows is = absurd (cc)
first_form (Rollback x o) follows is = absurd (cc)
first_form (Commit x o) follows is = absurd (cc)
first_form (Ask i p m) follows is = absurd (omega (arith, follows.1))
first_form (Give i p) follows is = absurd (omega (arith, follows.1))
first_form (Take i p) follows is = absurd (omega (arith, follows.1))
first_form (Evict i p) follows is = absurd (omega (arith, follows.1))
first_form (Flush i p) follows is = absurd (omega (arith, follows.1))
first_form (Force i) follows is = absurd (omega (arith, follows, is.0))
first_form (CheckBegin i) follows is = absurd (omega (arith, follows, is.0))
first_form (CheckEnd i) follows is = absurd (omega (arith, follows, is.0))
first_form (Fail i) follows is = absurd (omega (arith, follows, is.0))
first_form (Fuse n) follows is = absurd (follows refl)
first_form (Fault n) follows is = absurd (follows refl)
first_form (FailAll p) follows is = absurd (follows refl)
first_form (Recover i j n) follows is = absurd (omega (arith, follows, is.1.0))
first_form (Join i) follows is = absurd (omega (arith, follows, is.0))
first_form Reopen follows is = absurd (follows refl)
first_form RecoverAll follows is = absurd (follows refl)
first_form JoinAll follows is = absurd (follows refl)
first_form (Where p) follows is = absurd (omega (arith, follows))
first_form Table follows is = absurd (follows.0 refl)

module _ (line : Line) (lines : List Line) where
  misplaced : (f : Form) → IsForm f → Follows (line ∷ lines) f → Passes (line ∷ lines) (form_words f) cause.Word kind.Complex → ⊥
  misplaced (Complex i p k) is follows fit = absurd (cc)
  misplaced (Begin i x) is follows fit = no_verb i is.0 (codes "complex") (omega arith) fit.0
  misplaced (Ask i p m) is follows fit = no_verb i is.0 (codes "complex") (omega arith) fit.0
  misplaced (Give i p) is follows fit = no_verb i is.0 (codes "complex") (omega arith) fit.0
  misplaced (Take i p) is follows fit = no_verb i is.0 (codes "complex") (omega arith) fit.0
  misplaced (Evict i p) is follows fit = no_verb i is.0 (codes "complex") (omega arith) fit.0
  misplaced (Flush i p) is follows fit = no_verb i is.0 (codes "complex") (omega arith) fit.0
  misplaced (Force i) is follows fit = no_verb i is (codes "complex") (omega arith) fit.0
  misplaced (CheckBegin i) is follows fit = no_verb i is (codes "complex") (omega arith) fit.0
  misplaced (CheckEnd i) is follows fit = no_verb i is (codes "complex") (omega arith) fit.0
  misplaced _ is follows fit = absurd (omega (arith, ap (λ (l : List ℕ). get_or l 3 0) fit.0, ap (λ (l : List ℕ). get_or l 0 0) fit.0))

pub well_placed : (lines : List Line) (f : Form) → IsForm f → Follows lines f → ¬ IsMisplaced lines (form_words f)
well_placed [] f is follows wrong =
    let first = first_form f follows is in
    wrong (decimal first.0 ∷ decimal first.1 ∷ decimal first.2 ∷ []) (ap form_words first.3)
well_placed (line ∷ lines) f is follows wrong = misplaced line lines f is follows wrong

table_room : (lines : List Line) (f : Form) → Follows lines f → Passes lines (form_words f) cause.Word kind.Table
    → table_count lines < 64
table_room lines Table follows fit = follows.1
table_room lines Reopen follows fit = absurd (omega (arith, ap (λ (l : List ℕ). get_or l 0 0) fit.0))
table_room lines _ follows fit = absurd fit.1

-- ---- a line that reads has no cause

pub no_cause : (before : List Line) (bytes : List ℕ) (number end : ℕ) (line : Line) → ReadsAs before bytes number end line
    → (c : LineError) → ¬ Holds before bytes number end c
no_cause before bytes number end line reads c = at c where
  some : (k : LineKind) × Passes before (words_of bytes) cause.Unknown k
  some =
      let fits = passes before line.form reads.form reads.follows in (
        fits.0,
        passes_stands before (words_of bytes) fits.0
            (subst (λ (ws : List (List ℕ)). Passes before ws cause.Unknown fits.0) (sym reads.words) fits.1),
      )

  each : (d : LineError) → Passes before (words_of bytes) d some.0
  each d = fit_up before d (parts_of some.0) [] (words_of bytes) some.1

  at : (d : LineError) → ¬ Holds before bytes number end d
  at cause.Size holds = holds (record {
    bytes_most = reads.bytes_most;
    lines_most = reads.lines_most;
    text_most = reads.text_most;
    tables_most = λ fit. table_room before line.form reads.follows (subst (λ (ws : List (List ℕ)). Passes before ws cause.Word kind.Table) reads.words
        (table_plain before (words_of bytes) fit));
  })
  at cause.Byte holds = holds reads.printed
  at cause.Order holds = well_placed before line.form reads.form reads.follows
      (subst (IsMisplaced before) reads.words (misplaced_plain before (words_of bytes) holds))
  at cause.Word holds = holds some.0 (each cause.Word)
  at cause.Number holds = holds some.0 (each cause.Number)
  at cause.Name holds = holds some.0 (each cause.Name)
  at cause.Place holds = holds some.0 (each cause.Place)
  at cause.Used holds = holds some.0 (each cause.Used)
  at cause.Unknown holds = holds some.0 (each cause.Unknown)

-- ---- one first cause

at_rank : ℕ → LineError
at_rank zero = cause.Size
at_rank (suc zero) = cause.Byte
at_rank (suc (suc zero)) = cause.Order
at_rank (suc (suc (suc zero))) = cause.Word
at_rank (suc (suc (suc (suc zero)))) = cause.Number
at_rank (suc (suc (suc (suc (suc zero))))) = cause.Name
at_rank (suc (suc (suc (suc (suc (suc zero)))))) = cause.Place
at_rank (suc (suc (suc (suc (suc (suc (suc zero))))))) = cause.Used
at_rank (suc (suc (suc (suc (suc (suc (suc (suc n)))))))) = cause.Unknown

ranked : (c : LineError) → at_rank (rank c) ≡ c
unfolding at_rank
ranked cause.Size = refl
ranked cause.Byte = refl
ranked cause.Order = refl
ranked cause.Word = refl
ranked cause.Number = refl
ranked cause.Name = refl
ranked cause.Place = refl
ranked cause.Used = refl
ranked cause.Unknown = refl

pub one_cause : (before : List Line) (bytes : List ℕ) (number end : ℕ) (c d : LineError) → IsCause before bytes number end c
    → IsCause before bytes number end d → c ≡ d
one_cause before bytes number end c d a b =
    ⊎_elim
    (λ lt. absurd (b.first c lt a.holds))
    (λ ge. ⊎_elim
    (λ lt. absurd (a.first d lt b.holds))
    (λ le. sym (ranked c) ∙ ap at_rank (let same : rank c ≡ rank d = omega arith in same) ∙ ranked d)
    (cases_lt (rank d) (rank c)))
    (cases_lt (rank c) (rank d))

-- ---- the first cause of the words is that of the line

module _ (before : List Line) (bytes : List ℕ) (number end : ℕ) where
  pub by_size : ¬ IsAllowed before bytes number end → IsCause before bytes number end cause.Size
  by_size holds = record { holds = holds; first = λ other lt. absurd (omega (arith, lt)) }

  earlier_byte : IsAllowed before bytes number end → (other : LineError) → rank other < 1 → ¬ Holds before bytes number end other
  earlier_byte allowed cause.Size lt holds = holds allowed
  earlier_byte allowed _ lt holds = absurd (omega (arith, lt))

  pub by_byte : IsAllowed before bytes number end → ¬ ArePrinted bytes → IsCause before bytes number end cause.Byte
  by_byte allowed holds = record { holds = holds; first = earlier_byte allowed }

  earlier_order : IsAllowed before bytes number end → ArePrinted bytes → (other : LineError) → rank other < 2 → ¬ Holds before bytes number end other
  earlier_order allowed printed cause.Size lt holds = holds allowed
  earlier_order allowed printed cause.Byte lt holds = holds printed
  earlier_order allowed printed _ lt holds = absurd (omega (arith, lt))

  pub by_order : IsAllowed before bytes number end → ArePrinted bytes → IsMisplaced before (words_of bytes)
      → IsCause before bytes number end cause.Order
  by_order allowed printed holds = record { holds = holds; first = earlier_order allowed printed }

  module _ (allowed : IsAllowed before bytes number end) (printed : ArePrinted bytes) (placed : ¬ IsMisplaced before (words_of bytes)) where
    earlier : (limit : ℕ) → ((other : LineError) → 2 < rank other → rank other < limit → (k : LineKind) × Passes before (words_of bytes) other k)
        → (other : LineError) → rank other < limit → ¬ Holds before bytes number end other
    earlier limit passed cause.Size lt holds = holds allowed
    earlier limit passed cause.Byte lt holds = holds printed
    earlier limit passed cause.Order lt holds = placed holds
    earlier limit passed cause.Word lt holds = let by = passed cause.Word (omega arith) lt in holds by.0 by.1
    earlier limit passed cause.Number lt holds = let by = passed cause.Number (omega arith) lt in holds by.0 by.1
    earlier limit passed cause.Name lt holds = let by = passed cause.Name (omega arith) lt in holds by.0 by.1
    earlier limit passed cause.Place lt holds = let by = passed cause.Place (omega arith) lt in holds by.0 by.1
    earlier limit passed cause.Used lt holds = let by = passed cause.Used (omega arith) lt in holds by.0 by.1
    earlier limit passed cause.Unknown lt holds = let by = passed cause.Unknown (omega arith) lt in holds by.0 by.1

    pub by_words : (c : LineError) → IsFirst before (words_of bytes) c → IsCause before bytes number end c
    by_words cause.Size first = absurd (omega (arith, first.late))
    by_words cause.Byte first = absurd (omega (arith, first.late))
    by_words cause.Order first = absurd (omega (arith, first.late))
    by_words cause.Word first = record { holds = first.holds; first = earlier (rank cause.Word) first.passed }
    by_words cause.Number first = record { holds = first.holds; first = earlier (rank cause.Number) first.passed }
    by_words cause.Name first = record { holds = first.holds; first = earlier (rank cause.Name) first.passed }
    by_words cause.Place first = record { holds = first.holds; first = earlier (rank cause.Place) first.passed }
    by_words cause.Used first = record { holds = first.holds; first = earlier (rank cause.Used) first.passed }
    by_words cause.Unknown first = record { holds = first.holds; first = earlier (rank cause.Unknown) first.passed }

-- ---- the first cause of words, by whether some kind passes each

module _ (lines : List Line) (words : List (List ℕ)) where
  abbrev pub SomePass : LineError → Type 0
  SomePass c = (k : LineKind) × Passes lines words c k

  abbrev pub NonePass : LineError → Type 0
  NonePass c = (k : LineKind) → ¬ Passes lines words c k

  below : (limit : ℕ) → limit ≤ 8 → (3 < limit → SomePass cause.Word) → (4 < limit → SomePass cause.Number)
      → (5 < limit → SomePass cause.Name) → (6 < limit → SomePass cause.Place) → (7 < limit → SomePass cause.Used)
      → (other : LineError) → 2 < rank other → rank other < limit → SomePass other
  below limit most w n m p u cause.Size low lt = absurd (omega (arith, low))
  below limit most w n m p u cause.Byte low lt = absurd (omega (arith, low))
  below limit most w n m p u cause.Order low lt = absurd (omega (arith, low))
  below limit most w n m p u cause.Word low lt = w lt
  below limit most w n m p u cause.Number low lt = n lt
  below limit most w n m p u cause.Name low lt = m lt
  below limit most w n m p u cause.Place low lt = p lt
  below limit most w n m p u cause.Used low lt = u lt
  below limit most w n m p u cause.Unknown low lt = absurd (omega (arith, lt, most))

  pub first_word : NonePass cause.Word → IsFirst lines words cause.Word
  first_word none = record {
    late = omega arith;
    holds = none;
    passed = below 3 (omega arith) (λ lt. absurd (omega (arith, lt))) (λ lt. absurd (omega (arith, lt)))
        (λ lt. absurd (omega (arith, lt))) (λ lt. absurd (omega (arith, lt))) (λ lt. absurd (omega (arith, lt)));
  }

  pub first_number : SomePass cause.Word → NonePass cause.Number → IsFirst lines words cause.Number
  first_number w none = record {
    late = omega arith;
    holds = none;
    passed = below 4 (omega arith) (λ _. w) (λ lt. absurd (omega (arith, lt)))
        (λ lt. absurd (omega (arith, lt))) (λ lt. absurd (omega (arith, lt))) (λ lt. absurd (omega (arith, lt)));
  }

  pub first_name : SomePass cause.Word → SomePass cause.Number → NonePass cause.Name → IsFirst lines words cause.Name
  first_name w n none = record {
    late = omega arith;
    holds = none;
    passed = below 5 (omega arith) (λ _. w) (λ _. n) (λ lt. absurd (omega (arith, lt))) (λ lt. absurd (omega (arith, lt)))
        (λ lt. absurd (omega (arith, lt)));
  }

  pub first_place : SomePass cause.Word → SomePass cause.Number → SomePass cause.Name → NonePass cause.Place
      → IsFirst lines words cause.Place
  first_place w n m none = record {
    late = omega arith;
    holds = none;
    passed = below 6 (omega arith) (λ _. w) (λ _. n) (λ _. m) (λ lt. absurd (omega (arith, lt)))
        (λ lt. absurd (omega (arith, lt)));
  }

  pub first_used : SomePass cause.Word → SomePass cause.Number → SomePass cause.Name → SomePass cause.Place
      → NonePass cause.Used → IsFirst lines words cause.Used
  first_used w n m p none = record {
    late = omega arith;
    holds = none;
    passed = below 7 (omega arith) (λ _. w) (λ _. n) (λ _. m) (λ _. p) (λ lt. absurd (omega (arith, lt)));
  }

  pub first_unknown : SomePass cause.Word → SomePass cause.Number → SomePass cause.Name → SomePass cause.Place
      → SomePass cause.Used → NonePass cause.Unknown → IsFirst lines words cause.Unknown
  first_unknown w n m p u none = record {
    late = omega arith;
    holds = none;
    passed = below 8 (omega arith) (λ _. w) (λ _. n) (λ _. m) (λ _. p) (λ _. u);
  }

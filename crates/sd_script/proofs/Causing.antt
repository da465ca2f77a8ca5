-- Words that pass as a line of some kind are those of a form that may stand there. It serves the goals of causes.rt.
use Rattle.std.proofs.Common.{◌≡◌, ◌≢◌, ℕ, ◌<◌, List, [], ◌∷◌, length, None, Some, refl, sym, ap, ◌∙◌, subst, arith, get_or}
use Rattle.std.specs.Prelude.{codes}
use Rattle.sd_base.specs.declared.refusal.LineError.{LineError}
use Rattle.sd_base.specs.declared.refusal.LineError.TheVariants as cause
use Rattle.sd_script.specs.declared.kinds.Part.{Part}
use Rattle.sd_script.specs.declared.kinds.LineKind.{LineKind}
use Rattle.sd_script.specs.declared.kinds.LineKind.TheVariants as kind
use Rattle.sd_script.specs.declared.line.Form.{Form}
use Rattle.sd_script.specs.declared.line.Form.TheVariants as form
use Rattle.sd_script.specs.declared.line.Line.{Line}
use Rattle.sd_script.specs.Causes.{Fit, IsMisplaced, Passes}
use Rattle.sd_script.specs.Forms.{IsForm, form_words}
use Rattle.sd_script.specs.Kinds.{parts_of}
use Rattle.sd_script.specs.Order.{Follows, table_count}
use Rattle.sd_script.specs.Words.{plain, plain_number}
use Rattle.sd_script.proofs.Plain.{plain_add, plain_of_verb, plain_same}
use Rattle.sd_script.proofs.Shapes.{no_verb}

-- as many words fit as there are parts
pub fit_length : (lines : List Line) (c : LineError) (parts : List Part) (before : List ℕ) (words : List (List ℕ))
    → Fit lines c parts before words → length words ≡ length parts
fit_length lines c [] before [] fit = refl
fit_length lines c [] before (w ∷ words) fit = absurd fit
fit_length lines c (p ∷ parts) before [] fit = absurd fit
fit_length lines c (p ∷ parts) before (w ∷ words) fit = omega (arith, fit_length lines c parts w words fit.1)

-- a form that may stand behind these lines, and that these words spell
abbrev pub Made : List Line → List (List ℕ) → Type 0
Made lines words = (f : Form) × IsForm f × Follows lines f × (form_words f ≡ plain words)

-- a line of another word than that of a complex line isn't the first
later : (lines : List Line) (word first : List ℕ) (rest : List (List ℕ)) → ¬ IsMisplaced lines (first ∷ rest) → first ≡ word
    → word ≢ codes "complex" → lines ≢ []
later lines word first rest placed is other none =
    let at : ¬ IsMisplaced [] (first ∷ rest) = subst (λ (l : List Line). ¬ IsMisplaced l (first ∷ rest)) none placed in
    at (λ more same. other (let head : first ≡ codes "complex" = cc in sym is ∙ head))

-- only the first line is a complex line
first_alone : (lines : List Line) (a b c d : List ℕ) → ¬ IsMisplaced lines (a ∷ b ∷ c ∷ d ∷ []) → a ≡ codes "complex" → lines ≡ []
first_alone [] a b c d placed is = refl
first_alone (line ∷ lines) a b c d placed is = absurd (placed (is, (tt, (tt, (tt, tt)))))

made_complex : (lines : List Line) (a b c d : List ℕ)
    → ¬ IsMisplaced lines (a ∷ b ∷ c ∷ d ∷ [])
    → Passes lines (a ∷ b ∷ c ∷ d ∷ []) cause.Unknown kind.Complex → Made lines (a ∷ b ∷ c ∷ d ∷ [])
made_complex lines a b c d placed f =
    let insts = f.1.0.1 in
    let pages = f.1.1.0.1 in
    let frames = f.1.1.1.0.1 in (
      form.Complex insts.0 pages.0 frames.0,
      ((insts.1, omega (arith, insts.2)), (pages.1, omega (arith, pages.2)), (frames.1, omega (arith, frames.2))),
      first_alone lines a b c d placed f.0.0,
      let words : form_words (form.Complex insts.0 pages.0 frames.0) ≡ a ∷ b ∷ c ∷ d ∷ [] = λ k. sym f.0.0 k ∷ insts.3 k ∷ pages.3 k ∷ frames.3 k ∷ [] in
          words ∙ sym (plain_of_verb a b c d (codes "complex") f.0.0 (λ e. omega (arith, e))),
    )

made_begin : (lines : List Line) (a b c : List ℕ)
    → Passes lines (a ∷ b ∷ c ∷ []) cause.Unknown kind.Begin → Made lines (a ∷ b ∷ c ∷ [])
made_begin lines a b c f =
    let inst = f.0.3 in
    let name = f.1.1.0 in
    (form.Begin inst.0 c, (inst.1, name.2), (inst.2, name.4), λ k. inst.3 k ∷ sym f.1.0.0 k ∷ c ∷ [])

made_read : (lines : List Line) (a b c : List ℕ)
    → Passes lines (a ∷ b ∷ c ∷ []) cause.Unknown kind.Read → Made lines (a ∷ b ∷ c ∷ [])
made_read lines a b c f =
    let name = f.1.0 in
    let rid = f.1.1.0.3 in
    (form.Read b name.5.0 rid.0, (name.2, rid.1), (name.5.1, rid.2), λ k. sym f.0.0 k ∷ b ∷ rid.3 k ∷ [])

made_write : (lines : List Line) (a b c d : List ℕ)
    → Passes lines (a ∷ b ∷ c ∷ d ∷ []) cause.Unknown kind.Write → Made lines (a ∷ b ∷ c ∷ d ∷ [])
made_write lines a b c d f =
    let name = f.1.0 in
    let rid = f.1.1.0.3 in
    let words : form_words (form.Write b name.5.0 rid.0 d) ≡ a ∷ b ∷ c ∷ d ∷ [] = λ k. sym f.0.0 k ∷ b ∷ rid.3 k ∷ d ∷ [] in (
      form.Write b name.5.0 rid.0 d,
      (name.2, rid.1, f.1.1.1.0.0),
      (name.5.1, rid.2),
      words ∙ sym (plain_of_verb a b c d (codes "write") f.0.0 (λ e. omega (arith, e))),
    )

made_add : (lines : List Line) (a b c d : List ℕ)
    → Passes lines (a ∷ b ∷ c ∷ d ∷ []) cause.Unknown kind.Add → Made lines (a ∷ b ∷ c ∷ d ∷ [])
made_add lines a b c d f =
    let name = f.1.0 in
    let rid = f.1.1.0.3 in
    let amount = f.1.1.1.0.1 in
    let words : form_words (form.Add b name.5.0 rid.0 amount.0) ≡ a ∷ b ∷ c ∷ plain_number d ∷ [] = λ k. sym f.0.0 k ∷ b ∷ rid.3 k ∷ amount.2 k ∷ [] in (
      form.Add b name.5.0 rid.0 amount.0,
      (name.2, rid.1, amount.1),
      (name.5.1, rid.2),
      words ∙ sym (plain_add a b c d f.0.0),
    )

made_delete : (lines : List Line) (a b c : List ℕ)
    → Passes lines (a ∷ b ∷ c ∷ []) cause.Unknown kind.Delete → Made lines (a ∷ b ∷ c ∷ [])
made_delete lines a b c f =
    let name = f.1.0 in
    let rid = f.1.1.0.3 in
    (form.Delete b name.5.0 rid.0, (name.2, rid.1), (name.5.1, rid.2), λ k. sym f.0.0 k ∷ b ∷ rid.3 k ∷ [])

made_insert : (lines : List Line) (a b c d : List ℕ)
    → Passes lines (a ∷ b ∷ c ∷ d ∷ []) cause.Unknown kind.Insert → Made lines (a ∷ b ∷ c ∷ d ∷ [])
made_insert lines a b c d f =
    let name = f.1.0 in
    let page = f.1.1.0.3 in
    let words : form_words (form.Insert b name.5.0 page.0 d None) ≡ a ∷ b ∷ c ∷ d ∷ [] = λ k. sym f.0.0 k ∷ b ∷ page.3 k ∷ d ∷ [] in (
      form.Insert b name.5.0 page.0 d None,
      (name.2, page.1, f.1.1.1.0.0, tt),
      (name.5.1, page.2),
      words ∙ sym (plain_of_verb a b c d (codes "insert") f.0.0 (λ e. omega (arith, e))),
    )

made_insert_with_capacity : (lines : List Line) (a b c d e : List ℕ)
    → Passes lines (a ∷ b ∷ c ∷ d ∷ e ∷ []) cause.Unknown kind.InsertWithCapacity → Made lines (a ∷ b ∷ c ∷ d ∷ e ∷ [])
made_insert_with_capacity lines a b c d e f =
    let name = f.1.0 in
    let page = f.1.1.0.3 in
    let room = f.1.1.1.1.0.1 in (
      form.Insert b name.5.0 page.0 d (Some room.0),
      (name.2, page.1, f.1.1.1.0.0, (room.1, omega (arith, room.2))),
      (name.5.1, page.2),
      λ k. sym f.0.0 k ∷ b ∷ page.3 k ∷ d ∷ room.3 k ∷ [],
    )

made_save : (lines : List Line) (a b c : List ℕ)
    → Passes lines (a ∷ b ∷ c ∷ []) cause.Unknown kind.Save → Made lines (a ∷ b ∷ c ∷ [])
made_save lines a b c f =
    let name = f.1.0 in
    (form.Save b name.5.0 c, (name.2, f.1.1.0.2), name.5.1, λ k. sym f.0.0 k ∷ b ∷ c ∷ [])

made_back : (lines : List Line) (a b c : List ℕ)
    → Passes lines (a ∷ b ∷ c ∷ []) cause.Unknown kind.Back → Made lines (a ∷ b ∷ c ∷ [])
made_back lines a b c f =
    let name = f.1.0 in
    (form.Back b name.5.0 c, (name.2, f.1.1.0.2), name.5.1, λ k. sym f.0.0 k ∷ b ∷ c ∷ [])

made_rollback : (lines : List Line) (a b : List ℕ)
    → Passes lines (a ∷ b ∷ []) cause.Unknown kind.Rollback → Made lines (a ∷ b ∷ [])
made_rollback lines a b f =
    let name = f.1.0 in
    (form.Rollback b name.5.0, name.2, name.5.1, λ k. sym f.0.0 k ∷ b ∷ [])

made_commit : (lines : List Line) (a b : List ℕ)
    → Passes lines (a ∷ b ∷ []) cause.Unknown kind.Commit → Made lines (a ∷ b ∷ [])
made_commit lines a b f =
    let name = f.1.0 in
    (form.Commit b name.5.0, name.2, name.5.1, λ k. sym f.0.0 k ∷ b ∷ [])

made_ask : (lines : List Line) (a b c d : List ℕ)
    → Passes lines (a ∷ b ∷ c ∷ d ∷ []) cause.Unknown kind.Ask → Made lines (a ∷ b ∷ c ∷ d ∷ [])
made_ask lines a b c d f =
    let inst = f.0.3 in
    let page = f.1.1.0.3 in
    let mode = f.1.1.1.0.0 in
    let words : form_words (form.Ask inst.0 page.0 mode.0) ≡ a ∷ b ∷ c ∷ d ∷ [] = λ k. inst.3 k ∷ sym f.1.0.0 k ∷ page.3 k ∷ mode.1 k ∷ [] in (
      form.Ask inst.0 page.0 mode.0,
      (inst.1, page.1),
      (inst.2, page.2),
      words ∙ sym (plain_same a b c d (λ e. no_verb inst.0 inst.1 (codes "add") (omega arith) (inst.3 ∙ e))),
    )

made_give : (lines : List Line) (a b c : List ℕ)
    → Passes lines (a ∷ b ∷ c ∷ []) cause.Unknown kind.Give → Made lines (a ∷ b ∷ c ∷ [])
made_give lines a b c f =
    let inst = f.0.3 in
    let page = f.1.1.0.3 in
    (form.Give inst.0 page.0, (inst.1, page.1), (inst.2, page.2), λ k. inst.3 k ∷ sym f.1.0.0 k ∷ page.3 k ∷ [])

made_take : (lines : List Line) (a b c : List ℕ)
    → Passes lines (a ∷ b ∷ c ∷ []) cause.Unknown kind.Take → Made lines (a ∷ b ∷ c ∷ [])
made_take lines a b c f =
    let inst = f.0.3 in
    let page = f.1.1.0.3 in
    (form.Take inst.0 page.0, (inst.1, page.1), (inst.2, page.2), λ k. inst.3 k ∷ sym f.1.0.0 k ∷ page.3 k ∷ [])

made_evict : (lines : List Line) (a b c : List ℕ)
    → Passes lines (a ∷ b ∷ c ∷ []) cause.Unknown kind.Evict → Made lines (a ∷ b ∷ c ∷ [])
made_evict lines a b c f =
    let inst = f.0.3 in
    let page = f.1.1.0.3 in
    (form.Evict inst.0 page.0, (inst.1, page.1), (inst.2, page.2), λ k. inst.3 k ∷ sym f.1.0.0 k ∷ page.3 k ∷ [])

made_flush : (lines : List Line) (a b c : List ℕ)
    → Passes lines (a ∷ b ∷ c ∷ []) cause.Unknown kind.Flush → Made lines (a ∷ b ∷ c ∷ [])
made_flush lines a b c f =
    let inst = f.0.3 in
    let page = f.1.1.0.3 in
    (form.Flush inst.0 page.0, (inst.1, page.1), (inst.2, page.2), λ k. inst.3 k ∷ sym f.1.0.0 k ∷ page.3 k ∷ [])

made_force : (lines : List Line) (a b : List ℕ)
    → Passes lines (a ∷ b ∷ []) cause.Unknown kind.Force → Made lines (a ∷ b ∷ [])
made_force lines a b f =
    let inst = f.0.3 in
    (form.Force inst.0, inst.1, inst.2, λ k. inst.3 k ∷ sym f.1.0.0 k ∷ [])

made_check_begin : (lines : List Line) (a b c : List ℕ)
    → Passes lines (a ∷ b ∷ c ∷ []) cause.Unknown kind.CheckBegin → Made lines (a ∷ b ∷ c ∷ [])
made_check_begin lines a b c f =
    let inst = f.0.3 in
    (form.CheckBegin inst.0, inst.1, inst.2, λ k. inst.3 k ∷ sym f.1.0.0 k ∷ sym f.1.1.0.0 k ∷ [])

made_check_end : (lines : List Line) (a b c : List ℕ)
    → Passes lines (a ∷ b ∷ c ∷ []) cause.Unknown kind.CheckEnd → Made lines (a ∷ b ∷ c ∷ [])
made_check_end lines a b c f =
    let inst = f.0.3 in
    (form.CheckEnd inst.0, inst.1, inst.2, λ k. inst.3 k ∷ sym f.1.0.0 k ∷ sym f.1.1.0.0 k ∷ [])

made_fail : (lines : List Line) (a b : List ℕ)
    → Passes lines (a ∷ b ∷ []) cause.Unknown kind.Fail → Made lines (a ∷ b ∷ [])
made_fail lines a b f =
    let inst = f.1.0.3 in
    (form.Fail inst.0, inst.1, inst.2, λ k. sym f.0.0 k ∷ inst.3 k ∷ [])

made_join : (lines : List Line) (a b : List ℕ)
    → Passes lines (a ∷ b ∷ []) cause.Unknown kind.Join → Made lines (a ∷ b ∷ [])
made_join lines a b f =
    let inst = f.1.0.3 in
    (form.Join inst.0, inst.1, inst.2, λ k. sym f.0.0 k ∷ inst.3 k ∷ [])

made_fuse : (lines : List Line) (a b : List ℕ)
    → ¬ IsMisplaced lines (a ∷ b ∷ [])
    → Passes lines (a ∷ b ∷ []) cause.Unknown kind.Fuse → Made lines (a ∷ b ∷ [])
made_fuse lines a b placed f =
    let calls = f.1.0.1 in
    (form.Fuse calls.0, omega (arith, calls.2), later lines (codes "fuse") a (b ∷ []) placed f.0.0 (λ e. omega (arith, ap (λ (l : List ℕ). get_or l 0 0) e)), λ k. sym f.0.0 k ∷ calls.3 k ∷ [])

made_fault : (lines : List Line) (a b : List ℕ)
    → ¬ IsMisplaced lines (a ∷ b ∷ [])
    → Passes lines (a ∷ b ∷ []) cause.Unknown kind.Fault → Made lines (a ∷ b ∷ [])
made_fault lines a b placed f =
    let call = f.1.0.1 in
    (form.Fault call.0, (call.1, omega (arith, call.2)), later lines (codes "fault") a (b ∷ []) placed f.0.0 (λ e. omega (arith, ap (λ (l : List ℕ). get_or l 0 0) e)), λ k. sym f.0.0 k ∷ call.3 k ∷ [])

made_fail_all : (lines : List Line) (a b c : List ℕ)
    → ¬ IsMisplaced lines (a ∷ b ∷ c ∷ [])
    → Passes lines (a ∷ b ∷ c ∷ []) cause.Unknown kind.FailAll → Made lines (a ∷ b ∷ c ∷ [])
made_fail_all lines a b c placed f =
    let pick = f.1.1.0.0 in
    (form.FailAll pick.0, tt, later lines (codes "fail") a (b ∷ c ∷ []) placed f.0.0 (λ e. omega (arith, ap (λ (l : List ℕ). get_or l 0 0) e)), λ k. sym f.0.0 k ∷ sym f.1.0.0 k ∷ pick.1 k ∷ [])

made_recover : (lines : List Line) (a b c d : List ℕ)
    → Passes lines (a ∷ b ∷ c ∷ d ∷ []) cause.Unknown kind.Recover → Made lines (a ∷ b ∷ c ∷ d ∷ [])
made_recover lines a b c d f =
    let inst = f.1.0.3 in
    let by = f.1.1.1.0.3 in
    let words : form_words (form.Recover inst.0 by.0 None) ≡ a ∷ b ∷ c ∷ d ∷ [] = λ k. sym f.0.0 k ∷ inst.2 k ∷ sym f.1.1.0.0 k ∷ by.3 k ∷ [] in (
      form.Recover inst.0 by.0 None,
      (inst.1, by.1, tt),
      by.2,
      words ∙ sym (plain_of_verb a b c d (codes "recover") f.0.0 (λ e. omega (arith, e))),
    )

made_recover_in_steps : (lines : List Line) (a b c d e : List ℕ)
    → Passes lines (a ∷ b ∷ c ∷ d ∷ e ∷ []) cause.Unknown kind.RecoverInSteps → Made lines (a ∷ b ∷ c ∷ d ∷ e ∷ [])
made_recover_in_steps lines a b c d e f =
    let inst = f.1.0.3 in
    let by = f.1.1.1.0.3 in
    let most = f.1.1.1.1.0.1 in (
      form.Recover inst.0 by.0 (Some most.0),
      (inst.1, by.1, (most.1, omega (arith, most.2))),
      by.2,
      λ k. sym f.0.0 k ∷ inst.2 k ∷ sym f.1.1.0.0 k ∷ by.3 k ∷ most.3 k ∷ [],
    )

made_reopen : (lines : List Line) (a : List ℕ)
    → ¬ IsMisplaced lines (a ∷ [])
    → Passes lines (a ∷ []) cause.Unknown kind.Reopen → Made lines (a ∷ [])
made_reopen lines a placed f =
    (form.Reopen, tt, later lines (codes "reopen") a [] placed f.0.0 (λ e. omega (arith, ap (λ (l : List ℕ). get_or l 0 0) e)), λ k. sym f.0.0 k ∷ [])

made_recover_all : (lines : List Line) (a b : List ℕ)
    → ¬ IsMisplaced lines (a ∷ b ∷ [])
    → Passes lines (a ∷ b ∷ []) cause.Unknown kind.RecoverAll → Made lines (a ∷ b ∷ [])
made_recover_all lines a b placed f =
    (form.RecoverAll, tt, later lines (codes "recover") a (b ∷ []) placed f.0.0 (λ e. omega (arith, ap (λ (l : List ℕ). get_or l 0 0) e)), λ k. sym f.0.0 k ∷ sym f.1.0.0 k ∷ [])

made_join_all : (lines : List Line) (a b : List ℕ)
    → ¬ IsMisplaced lines (a ∷ b ∷ [])
    → Passes lines (a ∷ b ∷ []) cause.Unknown kind.JoinAll → Made lines (a ∷ b ∷ [])
made_join_all lines a b placed f =
    (form.JoinAll, tt, later lines (codes "join") a (b ∷ []) placed f.0.0 (λ e. omega (arith, ap (λ (l : List ℕ). get_or l 0 0) e)), λ k. sym f.0.0 k ∷ sym f.1.0.0 k ∷ [])

made_where : (lines : List Line) (a b : List ℕ)
    → Passes lines (a ∷ b ∷ []) cause.Unknown kind.Where → Made lines (a ∷ b ∷ [])
made_where lines a b f =
    let page = f.1.0.3 in
    (form.Where page.0, page.1, page.2, λ k. sym f.0.0 k ∷ page.3 k ∷ [])

made_table : (lines : List Line) (a : List ℕ)
    → ¬ IsMisplaced lines (a ∷ [])
    → (Passes lines (a ∷ []) cause.Word kind.Table → table_count lines < 64)
    → Passes lines (a ∷ []) cause.Unknown kind.Table → Made lines (a ∷ [])
made_table lines a placed room f =
    (form.Table, tt, (later lines (codes "table") a [] placed f.0.0 (λ e. omega (arith, ap (λ (l : List ℕ). get_or l 0 0) e)), room (f.0.0, tt)), λ k. sym f.0.0 k ∷ [])

pub made : (lines : List Line) (words : List (List ℕ)) (k : LineKind) → ¬ IsMisplaced lines words
    → (Passes lines words cause.Word kind.Table → table_count lines < 64) → Passes lines words cause.Unknown k → Made lines words
made lines (a ∷ b ∷ c ∷ d ∷ []) kind.Complex placed room f = made_complex lines a b c d placed f
made lines (a ∷ b ∷ c ∷ []) kind.Begin placed room f = made_begin lines a b c f
made lines (a ∷ b ∷ c ∷ []) kind.Read placed room f = made_read lines a b c f
made lines (a ∷ b ∷ c ∷ d ∷ []) kind.Write placed room f = made_write lines a b c d f
made lines (a ∷ b ∷ c ∷ d ∷ []) kind.Add placed room f = made_add lines a b c d f
made lines (a ∷ b ∷ c ∷ []) kind.Delete placed room f = made_delete lines a b c f
made lines (a ∷ b ∷ c ∷ d ∷ []) kind.Insert placed room f = made_insert lines a b c d f
made lines (a ∷ b ∷ c ∷ d ∷ e ∷ []) kind.InsertWithCapacity placed room f = made_insert_with_capacity lines a b c d e f
made lines (a ∷ b ∷ c ∷ []) kind.Save placed room f = made_save lines a b c f
made lines (a ∷ b ∷ c ∷ []) kind.Back placed room f = made_back lines a b c f
made lines (a ∷ b ∷ []) kind.Rollback placed room f = made_rollback lines a b f
made lines (a ∷ b ∷ []) kind.Commit placed room f = made_commit lines a b f
made lines (a ∷ b ∷ c ∷ d ∷ []) kind.Ask placed room f = made_ask lines a b c d f
made lines (a ∷ b ∷ c ∷ []) kind.Give placed room f = made_give lines a b c f
made lines (a ∷ b ∷ c ∷ []) kind.Take placed room f = made_take lines a b c f
made lines (a ∷ b ∷ c ∷ []) kind.Evict placed room f = made_evict lines a b c f
made lines (a ∷ b ∷ c ∷ []) kind.Flush placed room f = made_flush lines a b c f
made lines (a ∷ b ∷ []) kind.Force placed room f = made_force lines a b f
made lines (a ∷ b ∷ c ∷ []) kind.CheckBegin placed room f = made_check_begin lines a b c f
made lines (a ∷ b ∷ c ∷ []) kind.CheckEnd placed room f = made_check_end lines a b c f
made lines (a ∷ b ∷ []) kind.Fail placed room f = made_fail lines a b f
made lines (a ∷ b ∷ []) kind.Join placed room f = made_join lines a b f
made lines (a ∷ b ∷ []) kind.Fuse placed room f = made_fuse lines a b placed f
made lines (a ∷ b ∷ []) kind.Fault placed room f = made_fault lines a b placed f
made lines (a ∷ b ∷ c ∷ []) kind.FailAll placed room f = made_fail_all lines a b c placed f
made lines (a ∷ b ∷ c ∷ d ∷ []) kind.Recover placed room f = made_recover lines a b c d f
made lines (a ∷ b ∷ c ∷ d ∷ e ∷ []) kind.RecoverInSteps placed room f = made_recover_in_steps lines a b c d e f
made lines (a ∷ []) kind.Reopen placed room f = made_reopen lines a placed f
made lines (a ∷ b ∷ []) kind.RecoverAll placed room f = made_recover_all lines a b placed f
made lines (a ∷ b ∷ []) kind.JoinAll placed room f = made_join_all lines a b placed f
made lines (a ∷ b ∷ []) kind.Where placed room f = made_where lines a b f
made lines (a ∷ []) kind.Table placed room f = made_table lines a placed room f
made lines words kind.Complex placed room f = absurd (omega (arith, fit_length lines cause.Unknown (parts_of kind.Complex) [] words f))
made lines words kind.Begin placed room f = absurd (omega (arith, fit_length lines cause.Unknown (parts_of kind.Begin) [] words f))
made lines words kind.Read placed room f = absurd (omega (arith, fit_length lines cause.Unknown (parts_of kind.Read) [] words f))
made lines words kind.Write placed room f = absurd (omega (arith, fit_length lines cause.Unknown (parts_of kind.Write) [] words f))
made lines words kind.Add placed room f = absurd (omega (arith, fit_length lines cause.Unknown (parts_of kind.Add) [] words f))
made lines words kind.Delete placed room f = absurd (omega (arith, fit_length lines cause.Unknown (parts_of kind.Delete) [] words f))
made lines words kind.Insert placed room f = absurd (omega (arith, fit_length lines cause.Unknown (parts_of kind.Insert) [] words f))
made lines words kind.InsertWithCapacity placed room f = absurd (omega (arith, fit_length lines cause.Unknown (parts_of kind.InsertWithCapacity) [] words f))
made lines words kind.Save placed room f = absurd (omega (arith, fit_length lines cause.Unknown (parts_of kind.Save) [] words f))
made lines words kind.Back placed room f = absurd (omega (arith, fit_length lines cause.Unknown (parts_of kind.Back) [] words f))
made lines words kind.Rollback placed room f = absurd (omega (arith, fit_length lines cause.Unknown (parts_of kind.Rollback) [] words f))
made lines words kind.Commit placed room f = absurd (omega (arith, fit_length lines cause.Unknown (parts_of kind.Commit) [] words f))
made lines words kind.Ask placed room f = absurd (omega (arith, fit_length lines cause.Unknown (parts_of kind.Ask) [] words f))
made lines words kind.Give placed room f = absurd (omega (arith, fit_length lines cause.Unknown (parts_of kind.Give) [] words f))
made lines words kind.Take placed room f = absurd (omega (arith, fit_length lines cause.Unknown (parts_of kind.Take) [] words f))
made lines words kind.Evict placed room f = absurd (omega (arith, fit_length lines cause.Unknown (parts_of kind.Evict) [] words f))
made lines words kind.Flush placed room f = absurd (omega (arith, fit_length lines cause.Unknown (parts_of kind.Flush) [] words f))
made lines words kind.Force placed room f = absurd (omega (arith, fit_length lines cause.Unknown (parts_of kind.Force) [] words f))
made lines words kind.CheckBegin placed room f = absurd (omega (arith, fit_length lines cause.Unknown (parts_of kind.CheckBegin) [] words f))
made lines words kind.CheckEnd placed room f = absurd (omega (arith, fit_length lines cause.Unknown (parts_of kind.CheckEnd) [] words f))
made lines words kind.Fail placed room f = absurd (omega (arith, fit_length lines cause.Unknown (parts_of kind.Fail) [] words f))
made lines words kind.Join placed room f = absurd (omega (arith, fit_length lines cause.Unknown (parts_of kind.Join) [] words f))
made lines words kind.Fuse placed room f = absurd (omega (arith, fit_length lines cause.Unknown (parts_of kind.Fuse) [] words f))
made lines words kind.Fault placed room f = absurd (omega (arith, fit_length lines cause.Unknown (parts_of kind.Fault) [] words f))
made lines words kind.FailAll placed room f = absurd (omega (arith, fit_length lines cause.Unknown (parts_of kind.FailAll) [] words f))
made lines words kind.Recover placed room f = absurd (omega (arith, fit_length lines cause.Unknown (parts_of kind.Recover) [] words f))
made lines words kind.RecoverInSteps placed room f = absurd (omega (arith, fit_length lines cause.Unknown (parts_of kind.RecoverInSteps) [] words f))
made lines words kind.Reopen placed room f = absurd (omega (arith, fit_length lines cause.Unknown (parts_of kind.Reopen) [] words f))
made lines words kind.RecoverAll placed room f = absurd (omega (arith, fit_length lines cause.Unknown (parts_of kind.RecoverAll) [] words f))
made lines words kind.JoinAll placed room f = absurd (omega (arith, fit_length lines cause.Unknown (parts_of kind.JoinAll) [] words f))
made lines words kind.Where placed room f = absurd (omega (arith, fit_length lines cause.Unknown (parts_of kind.Where) [] words f))
made lines words kind.Table placed room f = absurd (omega (arith, fit_length lines cause.Unknown (parts_of kind.Table) [] words f))

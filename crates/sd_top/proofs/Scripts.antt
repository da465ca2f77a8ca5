-- What the lines of a script give the replay. It serves the goals of replaying.rt.
use Rattle.std.proofs.Common.{◌≡◌, ℕ, ◌≤◌, List, [], ◌∷◌, length, Some, refl, sym, arith, length-append}
use Rattle.std.specs.Prelude.{slice_get, codes}
use Rattle.std.specs.Fmt.{decimal}
use Rattle.std.specs.List.{join_with_byte}
use Rattle.sd_script.specs.declared.line.Form.{Form}
use Rattle.sd_script.specs.declared.line.Form.TheVariants as form
use Rattle.sd_script.specs.declared.line.Line.{Line}
use Rattle.sd_script.specs.Forms.{IsCount, IsForm, IsInst, number_words, form_words}
use Rattle.sd_script.specs.Order.{Follows, insts_in, insts_of, pages_in, pages_of}
use Rattle.sd_script.specs.Reading.{IsScript}
use Rattle.sd_script.proofs.Scripts.{line_of_script}
use Rattle.sd_drive.specs.Reaching.{AreDriven, IsShort, MayStand}
use Rattle.sd_top.specs.Opening.{frames_in, frames_of}

-- the first of words is no longer than all of them, nor are those behind it
head_within : (w : List ℕ) (ws : List (List ℕ)) → length w ≤ length (join_with_byte 32 (w ∷ ws))
head_within w [] = omega arith
head_within w (x ∷ ws) = omega (arith, length-append w (32 ∷ join_with_byte 32 (x ∷ ws)))

tail_within : (w x : List ℕ) (ws : List (List ℕ)) → length (join_with_byte 32 (x ∷ ws)) ≤ length (join_with_byte 32 (w ∷ x ∷ ws))
tail_within w x ws = omega (arith, length-append w (32 ∷ join_with_byte 32 (x ∷ ws)))

-- a value is no longer than its line
value_within : (name value page : List ℕ) (ws : List (List ℕ))
    → length value ≤ length (join_with_byte 32 (codes "insert" ∷ name ∷ page ∷ value ∷ ws))
value_within name value page ws = omega (
  arith,
  head_within value ws,
  tail_within page value ws,
  tail_within name page (value ∷ ws),
  tail_within (codes "insert") name (page ∷ value ∷ ws),
)

short_form : (f : Form) → length (join_with_byte 32 (form_words f)) ≤ 1024 → IsShort f
short_form (form.Insert name ordinal page value capacity) most =
    omega (arith, most, value_within name value (decimal page) (number_words capacity))
short_form f most = tt

-- the first line is the one that gives the complex
behind_none : (f : Form) → Follows [] f → IsForm f → IsInst (insts_in f) × IsCount (pages_in f) × IsCount (frames_in f)
behind_none (form.Complex insts pages frames) follows is = is
behind_none (form.Begin inst name) follows is = absurd (omega (arith, follows.0, is.0))
behind_none (form.Read name ordinal rid) follows is = absurd (omega (arith, follows.1))
behind_none (form.Write name ordinal rid value) follows is = absurd (omega (arith, follows.1))
behind_none (form.Add name ordinal rid by) follows is = absurd (omega (arith, follows.1))
behind_none (form.Insert name ordinal page value capacity) follows is = absurd (omega (arith, follows.1))
behind_none (form.Delete name ordinal rid) follows is = absurd (omega (arith, follows.1))
behind_none (form.Save name ordinal mark) follows is = absurd (cc)
behind_none (form.Back name ordinal mark) follows is = absurd (cc)
behind_none (form.Rollback name ordinal) follows is = absurd (cc)
behind_none (form.Commit name ordinal) follows is = absurd (cc)
behind_none (form.Ask inst page mode) follows is = absurd (omega (arith, follows.1))
behind_none (form.Give inst page) follows is = absurd (omega (arith, follows.1))
behind_none (form.Take inst page) follows is = absurd (omega (arith, follows.1))
behind_none (form.Evict inst page) follows is = absurd (omega (arith, follows.1))
behind_none (form.Flush inst page) follows is = absurd (omega (arith, follows.1))
behind_none (form.Force inst) follows is = absurd (omega (arith, follows, is.0))
behind_none (form.CheckBegin inst) follows is = absurd (omega (arith, follows, is.0))
behind_none (form.CheckEnd inst) follows is = absurd (omega (arith, follows, is.0))
behind_none (form.Fail inst) follows is = absurd (omega (arith, follows, is.0))
behind_none (form.Fuse calls) follows is = absurd (follows refl)
behind_none (form.Fault call) follows is = absurd (follows refl)
behind_none (form.FailAll pick) follows is = absurd (follows refl)
behind_none (form.Recover inst by most) follows is = absurd (omega (arith, follows, is.1.0))
behind_none (form.Join inst) follows is = absurd (omega (arith, follows, is.0))
behind_none form.Reopen follows is = absurd (follows refl)
behind_none form.RecoverAll follows is = absurd (follows refl)
behind_none form.JoinAll follows is = absurd (follows refl)
behind_none (form.Where page) follows is = absurd (omega (arith, follows))
behind_none form.Table follows is = absurd (follows.0 refl)

pub script_complex : (text : List ℕ) (lines : List Line) → IsScript text lines
    → IsInst (insts_of lines) × IsCount (pages_of lines) × IsCount (frames_of lines)
script_complex text [] script = absurd (omega (arith, script.some))
script_complex text (line ∷ lines) script =
    let stands = line_of_script text (line ∷ lines) script 0 line refl in
    behind_none line.form stands.follows stands.form

-- the lines of a script may be driven
may_stand : (text : List ℕ) (lines : List Line) → IsScript text lines → (n : ℕ) (line : Line) → slice_get lines n ≡ Some line → MayStand lines n line
may_stand text lines script n line is =
    let stands = line_of_script text lines script n line is in
    record {
      follows = stands.follows;
      form = stands.form;
      short = short_form line.form stands.short;
    }

pub script_driven : (text : List ℕ) (lines : List Line) (insts pages : ℕ) → IsScript text lines → insts ≡ insts_of lines → pages ≡ pages_of lines
    → AreDriven lines insts pages
script_driven text lines insts pages script insts_are is =
    let first = script_complex text lines script in
    let range = first.0 in
    let count = first.1 in
    record {
      each = may_stand text lines script;
      insts = sym insts_are;
      insts_some = omega (arith, range.0, insts_are);
      insts_most = omega (arith, range.1, insts_are);
      pages = sym is;
      some = omega (arith, count.0, is);
      most = omega (arith, count.1, is);
    }

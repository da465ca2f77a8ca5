use Rattle.std.proofs.Common.{Bool, List, false, inl, refl, sym, ◌∙◌, subst}
use Rattle.std.proofs.lemmas.Bool.{true≢false}
use Rattle.sd_base.specs.declared.refusal.Refusal.{Refusal}
use Rattle.sd_script.specs.declared.line.Line.{Line}
use Rattle.sd_script.specs.Causes.{IsCause}
use Rattle.sd_script.specs.Remembered.{IsLineRefusedWith, IsTakenOf}
use Rattle.sd_script.specs.Text.{Numbered, line_at}
use Rattle.sd_script.specs.Words.{plain, words_of}
use Rattle.sd_script.proofs.Passing.{not_passed, passed_decides}
use Rattle.sd_script.proofs.reader.Reader.read_line.Goals as goal

pub returns-then-not-printed-clause-refused : goal.returns-then-not-printed-clause-refused
returns-then-not-printed-clause-refused c =
    let at : Numbered = line_at c.args.bytes.now c.args.number c.args.end in
    let room = c.if-not-has_room_for.ensures.0 refl in
    subst (λ (r : Refusal). IsLineRefusedWith c.args.self.now at r) (sym c.bad_line-then-not-printed.ensures) (
      not_passed at (λ p. true≢false (sym (c.requires.printed.1 p.1.0) ∙ c.if-not-printed.true)),
      refl,
      c.cause_unprinted.ensures c.args.number c.args.end room.1 room.2,
    )

pub returns-then-is_idle-clause-read : goal.returns-then-is_idle-clause-read
returns-then-is_idle-clause-read c =
    let at : Numbered = line_at c.args.bytes.now c.args.number c.args.end in
    let room = c.if-not-has_room_for.ensures.0 refl in
    inl ((passed_decides at).1 (sym c.if-is_idle.ensures, (c.requires.printed.0 c.if-not-printed.false, room)), refl)

pub returns-then-not-branch-clause-refused : goal.returns-then-not-branch-clause-refused
returns-then-not-branch-clause-refused c =
    let at : Numbered = line_at c.args.bytes.now c.args.number c.args.end in
    let room = c.if-not-has_room_for.ensures.0 refl in
    let taken : IsTakenOf c.args.self.now c.args.number (plain (words_of c.args.bytes.now)) c.take_line.new.reader false =
    subst (λ (b : Bool). IsTakenOf c.args.self.now c.args.number (plain (words_of c.args.bytes.now)) c.take_line.new.reader b) c.if-not-branch.true c.in_ok-take_line.ensures in
    subst (λ (r : Refusal). IsLineRefusedWith c.args.self.now at r) (sym c.bad_line-then-not-branch.ensures) (
      not_passed at (λ p. true≢false (sym p.0 ∙ sym c.if-is_idle.ensures)),
      refl,
      subst (λ (l : List Line). IsCause l c.args.bytes.now c.args.number c.args.end c.cause_of.result) taken.1
          (c.cause_of.ensures c.args.number c.args.end room.1 room.2),
    )

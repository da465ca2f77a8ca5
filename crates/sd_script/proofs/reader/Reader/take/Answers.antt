use Rattle.std.proofs.Common.{◌≡◌, false, true, List, ◌∷◌, [], ◌++◌, length, refl, sym, ap, ◌∙◌, subst, arith}
use Rattle.sd_script.specs.declared.line.Line.{Line}
use Rattle.sd_script.specs.Known.{known}
use Rattle.sd_script.specs.Order.{Follows}
use Rattle.sd_script.specs.Remembered.{IsFresh}
use Rattle.sd_script.proofs.Remembering.{remembers_push, begun_few, fresh_unknown, unknown_fresh}
use Rattle.sd_script.proofs.Taking.{not_taken, unknown_if_true}
use Rattle.sd_script.proofs.reader.Reader.take.Goals as goal

pub returns-then-not-is_ready : goal.returns-then-not-is_ready
returns-then-not-is_ready c =
    not_taken c.args.self.now c.make_ready-ready.new.lines.items c.args.line c.make_ready-ready.result
    (λ e. let yes : false ≡ true = c.if-not-is_ready.ensures.1 e in absurd (cc)) c.make_ready-ready.ensures.new
    (λ fresh. unknown_fresh c.self.inside.lines.items (known c.self.inside.begun) c.self.invariant.names c.args.line.form c.requires.form
    (subst (λ (l : List Line). IsFresh l c.args.line.form) (sym c.self.view_is) fresh))
    (c.make_ready-ready.ensures.lines ∙ c.self.view_is)

pub begins_behind-self-inside-requires : goal.begins_behind-self-inside-requires
begins_behind-self-inside-requires c = omega (arith, c.self.invariant.begins_are, begun_few c.self.inside.lines.items, ap (λ (l : List Line). length l) c.self.view_is, c.requires.few)

pub returns : goal.returns
returns c =
    let fresh : IsFresh c.self.inside.lines.items c.args.line.form = fresh_unknown c.self.inside.lines.items (known c.self.inside.begun) c.self.invariant.names c.args.line.form c.requires.form
    (unknown_if_true c.make_ready-ready.result c.make_ready-ready.ensures.new (c.if-not-is_ready.ensures.0 refl)) in
    let items : c.push_reserved.new.self.items ≡ c.self.inside.lines.items ++ c.args.line ∷ [] = c.push_reserved.ensures.items ∙ ap (λ (l : List Line). l ++ c.args.line ∷ []) c.make_ready-ready.ensures.lines in (
      subst (λ (l : List Line). IsFresh l c.args.line.form) c.self.view_is fresh,
      items ∙ ap (λ (l : List Line). l ++ c.args.line ∷ []) c.self.view_is,
    )

pub invariant_of-self-2 : goal.invariant_of-self-2
invariant_of-self-2 c =
    let inside = c.self.inside in
    let lines : List Line = inside.lines.items in
    let ready = c.if-not-is_ready.ensures.0 refl in
    let fresh : IsFresh lines c.args.line.form = fresh_unknown lines (known inside.begun) c.self.invariant.names c.args.line.form c.requires.form
    (unknown_if_true c.make_ready-ready.result c.make_ready-ready.ensures.new ready) in
    let follows : Follows lines c.args.line.form = subst (λ (l : List Line). IsFresh l c.args.line.form → Follows l c.args.line.form) (sym c.self.view_is) c.requires.follows fresh in
    let next = remembers_push lines c.args.line (known inside.begun) (known c.make_ready-ready.new.names) inside.begins inside.insts inside.pages inside.tables c.self.invariant follows (c.make_ready-ready.ensures.names ready) in
    let items : c.push_reserved.new.self.items ≡ lines ++ c.args.line ∷ [] = c.push_reserved.ensures.items ∙ ap (λ (l : List Line). l ++ c.args.line ∷ []) c.make_ready-ready.ensures.lines in
    rw (items, c.begins_behind-self-inside.ensures, c.insts_behind-self-inside.ensures, c.pages_behind-self-inside.ensures, c.tables_behind-self-inside.ensures) next

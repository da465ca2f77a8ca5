use Rattle.std.proofs.Common.{◌≡◌, ℕ, ◌≤◌, List, [], ◌∷◌, length, ap, sym, ◌∙◌, eq-eqb, ne_eqb, eqb, arith}
use Rattle.std.specs.Prelude.{not}
use Rattle.sd_logrec.specs.Kept.{spelled}
use Rattle.sd_logrec.specs.declared.record.Record.{Record}
use Rattle.sd_log.specs.Logs.{are_there, has_tail}
use Rattle.sd_log.proofs.Tails.{no_text}
use Rattle.sd_log.proofs.log.Log.has_tail.Goals as goal

-- a text has bytes exactly where there are records
text-there : (rs : List Record) (n : ℕ) → n ≡ length (spelled rs) → not (eqb n 0) ≡ are_there rs
text-there [] n e = ap not (eq-eqb n 0 e)
text-there (r ∷ rs) n e = ap not (ne_eqb n 0 (λ z. let none : (r ∷ rs) ≡ [] = no_text (r ∷ rs) (sym e ∙ z) in absurd (cc)))

pub returns : goal.returns
returns c =
    text-there c.self.inside.written.tail (length c.tail.result.now) (ap length c.tail.ensures) ∙ ap has_tail c.self.view_is

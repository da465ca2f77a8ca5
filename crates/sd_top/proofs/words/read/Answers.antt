use Rattle.std.specs.Prelude.{map, string_bytes, Some, None}
use Rattle.std.proofs.Common.{◌∙◌}
use Rattle.clap.specs.Words.{app_of, found_of, rows_of}
use Rattle.sd_top.proofs.Commands.{asked_found, asked_none, refuses_words, takes_words}
use Rattle.sd_top.proofs.words.read.Goals as goal

pub returns-in-Some : goal.returns-in-Some
returns-in-Some c =
    let words = map string_bytes c.args.words.now in
    let taken = takes_words (app_of c.in_ok-command.field-0) words c.in-Ok.found c.in_ok-command.ensures c.in-Ok.ensures.kinds c.in-Ok.ensures.matches in
    (asked_found words (rows_of (found_of c.in-Ok.found)) (Some c.in-Some.what) c.in-Some.ensures taken, taken.1)

pub returns-in-Ok : goal.returns-in-Ok
returns-in-Ok c =
    let words = map string_bytes c.args.words.now in
    let taken = takes_words (app_of c.in_ok-command.field-0) words c.in-Ok.found c.in_ok-command.ensures c.in-Ok.ensures.kinds c.in-Ok.ensures.matches in
    asked_found words (rows_of (found_of c.in-Ok.found)) None c.in-None.ensures taken

pub returns : goal.returns
returns c =
    asked_none (map string_bytes c.args.words.now)
    (refuses_words (app_of c.in_ok-command.field-0) (map string_bytes c.args.words.now) c.in-Err.error c.in_ok-command.ensures
    c.in-Err.ensures.kinds (λ e. c.in_default.not-OutOfMemory (c.kind.ensures ∙ e)))

use Rattle.std.proofs.Common.{refl, sym}
use Rattle.std.proofs.lemmas.Bool.{true≢false}
use Rattle.sd_script.specs.Words.{words_of}
use Rattle.sd_script.proofs.FirstCause.{first_name, first_place, first_unknown, first_used}
use Rattle.sd_script.proofs.causes.cause_in_words.Goals as goal

pub returns-then-not-some_passes-3 : goal.returns-then-not-some_passes-3
returns-then-not-some_passes-3 c = first_name c.args.reader.now (words_of c.args.line.now) (c.if-not-some_passes.ensures.some refl) (c.if-not-some_passes-2.ensures.some refl)
    (c.if-not-some_passes-3.ensures.none (λ e. true≢false (sym e)))

pub returns-then-not-some_passes-4 : goal.returns-then-not-some_passes-4
returns-then-not-some_passes-4 c = first_place c.args.reader.now (words_of c.args.line.now) (c.if-not-some_passes.ensures.some refl) (c.if-not-some_passes-2.ensures.some refl) (c.if-not-some_passes-3.ensures.some refl)
    (c.if-not-some_passes-4.ensures.none (λ e. true≢false (sym e)))

pub returns-then-not-some_passes-5 : goal.returns-then-not-some_passes-5
returns-then-not-some_passes-5 c = first_used c.args.reader.now (words_of c.args.line.now) (c.if-not-some_passes.ensures.some refl) (c.if-not-some_passes-2.ensures.some refl) (c.if-not-some_passes-3.ensures.some refl) (c.if-not-some_passes-4.ensures.some refl)
    (c.if-not-some_passes-5.ensures.none (λ e. true≢false (sym e)))

pub returns-else-not-some_passes-5 : goal.returns-else-not-some_passes-5
returns-else-not-some_passes-5 c = first_unknown c.args.reader.now (words_of c.args.line.now) (c.if-not-some_passes.ensures.some refl) (c.if-not-some_passes-2.ensures.some refl) (c.if-not-some_passes-3.ensures.some refl)
    (c.if-not-some_passes-4.ensures.some refl) (c.if-not-some_passes-5.ensures.some refl) c.requires

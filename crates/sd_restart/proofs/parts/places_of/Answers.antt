use Rattle.std.proofs.Common.{◌≡◌, ℕ, List, Option, subst}
use Rattle.std.specs.Prelude.{IfSome}
use Rattle.std.proofs.lemmas.Option.{slice_get-get_or}
use Rattle.sd_state.proofs.Answered.{none-unboxed}
use Rattle.sd_restart.proofs.Places.{placed_more}
use Rattle.sd_restart.proofs.parts.places_of.Goals as goal

pub loop-p-preserved : goal.loop-p-preserved
loop-p-preserved c =
    let recs : List (Option ℕ) = c.args.recs.now in
    let k : ℕ = c.loop-p.p in
    let at : c.unwrap.result ≡ k = subst (λ (r : Option ℕ). IfSome r (λ x. x ≡ k)) c.unwrap.ensures c.new-in-loop-p.ensures.value in
    let done = c.lose.ensures in
    placed_more recs k c.unwrap.result _ c.loop-p.directory c.lose.new.directory c.loop-p.invariant at
    (slice_get-get_or recs k _ c.loop-p-test.true) c.loop-p-test.true done.here done.rec_lsn done.images done.asks done.others done.other_rec_lsns

pub returns-clause-still : goal.returns-clause-still
returns-clause-still c = λ p. none-unboxed c.loop-p.directory p (c.loop-p.invariant.still p)

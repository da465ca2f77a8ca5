use Rattle.std.proofs.Common.{◌≡◌, List, Some, length, take, refl, sym, ap, ◌∙◌, subst}
use Rattle.std.specs.Prelude.{slice_get}
use Rattle.std.proofs.lemmas.Option.{slice_get_read}
use Rattle.sd_recovered.specs.declared.losers.Loser.{Loser}
use Rattle.sd_restart.proofs.Claiming.{AreClaimed, claims_free, claims_more}
use Rattle.sd_restart.proofs.claims.claim_all.Goals as goal

pub claim-requires-clause-free : goal.claim-requires-clause-free
claim-requires-clause-free c =
    let items : List Loser = c.items-loser-items.result.now in
    let losers : List Loser = c.args.losers.now in
    let same : items ≡ losers = c.items-loser-items.ensures in
    let k = c.loop-loser.loser-index in
    let l : Loser = c.loser-item.result in
    let there : slice_get losers k ≡ Some l =
    ap (λ (ls : List Loser). slice_get ls k) (sym same)
    ∙ slice_get_read items (length items) k l refl c.loop-loser-test.true c.loser-item.is in
    claims_free c.args.log.now losers c.args.locks.now c.loop-loser.locks k l there c.requires.apart c.requires.free
    (subst (λ (ls : List Loser). AreClaimed c.args.log.now (take k ls) c.args.locks.now c.loop-loser.locks) same c.loop-loser.invariant.0)

pub loop-loser-preserved : goal.loop-loser-preserved
loop-loser-preserved c =
    let items : List Loser = c.items-loser-items.result.now in
    let k = c.loop-loser.loser-index in
    let l : Loser = c.loser-item.result in (
      claims_more c.args.log.now items c.args.locks.now c.loop-loser.locks c.claim.new.locks k l
          (slice_get_read items (length items) k l refl c.loop-loser-test.true c.loser-item.is) c.loop-loser.invariant.0
          c.in_ok-claim.ensures.claimed,
      c.in_ok-claim.ensures.waits ∙ c.loop-loser.invariant.1,
    )

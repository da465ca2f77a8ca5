use Rattle.std.proofs.Common.{◌≡◌, Some, length, slice_get, slice_index_or, ◌-◌, arith, rules}
use Rattle.sd_logrec.specs.View.{flat}
use Rattle.sd_logrec.specs.View.Kind.{Clr}
use Rattle.sd_recovered.proofs.Indices.{top_of, at_within, at_is, undoes-top}
use Rattle.sd_recovered.proofs.seen.Seen.undoes_top.Goals as goal

pub returns-in-Some-get : goal.returns-in-Some-get
returns-in-Some-get c = λ sofar fits.
    let log = c.args.log.now in
    let at = c.in-Some.at.now in
    let open_ones = c.args.self.now.open.items in
    let last : slice_get open_ones (length open_ones - 1) ≡ Some at = search rules in
    let top = top_of log open_ones sofar.open_ones at fits.open_is last in
    let placed : c.in-Some-get.top.now ≡ slice_index_or log at c.in-Some-get.top.now = search rules in
    let same = at_is log at top.top c.in-Some-get.top.now top.there placed in
    let clr : (flat c.args.rec.now).kind ≡ Clr = search rules in
    undoes-top log at (flat c.args.rec.now) (flat c.in-Some-get.top.now.rec) sofar.open_ones c.undoes.result top same
    fits.updates clr c.undoes.ensures

pub returns-in-None : goal.returns-in-None
returns-in-None c = λ sofar fits.
    let log = c.args.log.now in
    let at = c.in-Some.at.now in
    let open_ones = c.args.self.now.open.items in
    let last : slice_get open_ones (length open_ones - 1) ≡ Some at = search rules in
    let top = top_of log open_ones sofar.open_ones at fits.open_is last in
    let lt = at_within log at top.top top.there in
    absurd (grind (arith, c.get.ensures.lookup))

use Rattle.std.proofs.Common.{◌≡◌, ◌∙◌, ◌-◌, ◌<◌, refl, ◌++◌, [], ◌∷◌, ℕ, List, length, sym, ap, subst, arith}
use Rattle.std.specs.Prelude.{Some, map, slice_get}
use Rattle.std.proofs.lemmas.List.{get_or_default, length-map}
use Rattle.std.proofs.lemmas.Option.{slice_get_read}
use Rattle.sd_log.specs.ByPage.{places_of}
use Rattle.sd_log.specs.PagesInside.{PagesState, chain_of, last_of}
use Rattle.sd_log.proofs.Paging.{Walks, walk_begins, walk_ends, walk_on, walk_within}
use Rattle.sd_log.proofs.pages.PageChains.of_page.Goals as goal

pub loop-at-init : goal.loop-at-init
loop-at-init c =
    let chains : List ℕ = map chain_of c.self.inside.links.items in
    let heads = c.self.invariant.heads in
    let low = c.get.ensures.range in
    let same : c.get.result ≡ c.args.page = c.get.ensures.value in
    let at : c.index-at.result.now ≡ last_of c.args.page 0 0 chains =
    c.index-at.ensures ∙ get_or_default c.self.inside.last.items c.get.result c.index-at.result.now 0 (omega (arith, c.self.inside.last.ok.0))
    ∙ c.self.invariant.head_is c.get.result (omega arith) ∙ ap (λ x. last_of x 0 0 chains) same in
    subst (λ n. Walks c.args.page n chains c.new-found.result.items) (sym at) (subst (λ (l : List ℕ). Walks c.args.page (last_of c.args.page 0 0 chains) chains l) (sym c.new-found.ensures.items) (walk_begins c.args.page chains))

pub index-requires : goal.index-requires
index-requires c =
    let within = walk_within c.args.page c.loop-at.at (map chain_of c.self.inside.links.items) c.loop-at.found.items c.loop-at.invariant in
    omega (arith, within, c.loop-at-test.true, length-map c.self.inside.links.items chain_of, c.self.inside.links.ok.0)

step : (c : goal.After-index) → Walks c.args.page c.index.result.now.before (map chain_of c.self.inside.links.items) (c.loop-at.found.items ++ (c.loop-at.at - 1) ∷ []) × (c.index.result.now.before < c.loop-at.at)
step c =
    let within = walk_within c.args.page c.loop-at.at (map chain_of c.self.inside.links.items) c.loop-at.found.items c.loop-at.invariant in
    let some : 0 < c.loop-at.at = c.loop-at-test.true in
    let here : slice_get c.self.inside.links.items (c.loop-at.at - 1) ≡ Some c.index.result.now =
    slice_get_read c.self.inside.links.items (length c.self.inside.links.items) (c.loop-at.at - 1) c.index.result.now refl (omega (arith, within, some, length-map c.self.inside.links.items chain_of)) c.index.ensures in
    walk_on c.self.inside.links.items c.args.page c.loop-at.at c.loop-at.found.items c.index.result.now c.self.invariant.linked some here c.loop-at.invariant

pub loop-at-smaller : goal.loop-at-smaller
loop-at-smaller c = (step c).1

pub loop-at-preserved : goal.loop-at-preserved
loop-at-preserved c = subst (λ (l : List ℕ). Walks c.args.page c.index.result.now.before (map chain_of c.self.inside.links.items) l) (sym c.in_ok-push.ensures.items) (step c).0

pub returns : goal.returns
returns c =
    c.reverse.ensures.items ∙ walk_ends c.args.page c.loop-at.at (map chain_of c.self.inside.links.items) c.loop-at.found.items c.loop-at.invariant (omega (arith, c.loop-at-test.false))
    ∙ ap (λ (s : PagesState). places_of c.args.page 0 s.chains) c.self.view_is

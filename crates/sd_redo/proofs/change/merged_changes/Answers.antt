use Rattle.std.proofs.Common.{◌≡◌, ℕ, ◌+◌, arith, length, map, rules, subst, sym}
use Rattle.std.specs.Prelude.{filter}
use Rattle.sd_redo.specs.Changes.{AreByLsn, found_of, in_turn, is_of, placed_in}
use Rattle.sd_redo.proofs.Merges.{Pages, all_chains, all_merged, no_pages, one_page}
use Rattle.sd_redo.proofs.change.merged_changes.Goals as goal

pub loop-p-init : goal.loop-p-init
loop-p-init c = record {
  pages = subst (Pages c.args.logs.now (length c.args.logs.now + 1) 0) (sym c.new-changes.ensures.items) (no_pages c.args.logs.now (length c.args.logs.now + 1));
}

pub loop-p-preserved : goal.loop-p-preserved
loop-p-preserved c =
    let all = c.in_ok-of_page.ensures in
    let turn = in_turn (placed_in c.args.logs.now) (length c.args.logs.now + 1) in
    let found = map found_of c.in_ok-of_page.of_page.items in
    let page : c.unwrap-page.result ≡ c.loop-p.p = search rules in record {
      pages = one_page c.args.logs.now (length c.args.logs.now + 1) c.loop-p.p c.loop-p.changes.items c.in_ok-of_page.of_page.items
          c.loop-p.invariant.pages all.changes (subst (λ (p : ℕ). AreByLsn (filter (is_of p) turn) found) page all.by_lsn)
          c.append.new.self.items all.stand c.in_ok-append.ensures.items;
    }

pub returns-clause-merged : goal.returns-clause-merged
returns-clause-merged c q =
    let all : c.loop-p.p ≡ 1024 = omega (arith, c.loop-p.auto.p-end, c.loop-p-test.false) in
    all_merged c.args.logs.now (length c.args.logs.now + 1) c.loop-p.changes.items
    (subst (λ (p : ℕ). Pages c.args.logs.now (length c.args.logs.now + 1) p c.loop-p.changes.items) all c.loop-p.invariant.pages)
    c.requires.spelled q

pub returns-clause-chains : goal.returns-clause-chains
returns-clause-chains c rise q =
    let all : c.loop-p.p ≡ 1024 = omega (arith, c.loop-p.auto.p-end, c.loop-p-test.false) in
    all_chains c.args.logs.now (length c.args.logs.now + 1) c.loop-p.changes.items
    (subst (λ (p : ℕ). Pages c.args.logs.now (length c.args.logs.now + 1) p c.loop-p.changes.items) all c.loop-p.invariant.pages)
    c.requires.spelled q rise

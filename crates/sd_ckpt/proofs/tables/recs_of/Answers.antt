use Rattle.std.proofs.Common.{Vec, ◌≡◌, ℕ, ◌+◌, List, [], ◌∷◌, ◌++◌, false, refl, sym, ap, ◌∙◌, subst, arith}
use Rattle.std.specs.Prelude.{Contains, IfSome, Option, None, Some, ◌↔◌, is_some}
use Rattle.std.specs.Global.{Global}
use Rattle.sd_logrec.specs.Spelling.{AreRecs, Changed}
use Rattle.sd_pagelock.specs.Directory.{rec_lsn_at}
use Rattle.sd_pagelock.specs.Places.{changed}
use Rattle.sd_ckpt.proofs.TableRows.{HasRecs, all-recs, more-recs, same-recs}
use Rattle.sd_ckpt.proofs.tables.recs_of.Goals as goal
use Rattle.sd_ckpt.proofs.tables.recs_of.Goals.{in-Some+in_ok-push, in_default}

none-there : (o : Option ℕ) → is_some o ≡ false → o ≡ None
none-there None e = refl
none-there (Some l) e = absurd (cc)

pub loop-number-preserved : goal.loop-number-preserved
loop-number-preserved c =
    let d = c.args.directory.now in
    let n : ℕ = c.loop-number.number in
    let rows : List Changed = c.loop-number.rows.items in
    let page : ℕ = c.unwrap-page.result in
    let lt = c.loop-number-test.true in
    let page-is : page ≡ n = subst (λ (o : Option ℕ). IfSome o (λ p. p ≡ n)) c.unwrap-page.ensures c.new.ensures.value in
    let there : rec_lsn_at d n ≡ c.rec_lsn.result = ap (rec_lsn_at d) (sym page-is) ∙ sym c.rec_lsn.ensures.value in
    elim c.match-rec_lsn.branch [
      | in-Some+in_ok-push w ↦
          let lsn : ℕ = w.in-Some.lsn in
          let items : c.match-rec_lsn.rows.items ≡ rows ++ (n, lsn) ∷ [] = ap (λ (v : Vec Changed Global). v.items) w.rows-is
          ∙ w.in_ok-push.ensures.items ∙ ap (λ (x : Changed). rows ++ x ∷ []) w.rec_of.ensures.row
          ∙ ap (λ (p : ℕ). rows ++ (p, lsn) ∷ []) page-is in (
            omega (arith, lt),
            subst (HasRecs (rec_lsn_at d) (n + 1)) (sym items)
                (more-recs (rec_lsn_at d) n lsn rows c.loop-number.invariant.1 (there ∙ w.in-Some.is) w.rec_of.ensures.small),
          )
      | in_default w ↦ (
        omega (arith, lt),
        subst (HasRecs (rec_lsn_at d) (n + 1)) (sym (ap (λ (v : Vec Changed Global). v.items) w.rows-is))
            (same-recs (rec_lsn_at d) n rows c.loop-number.invariant.1 (there ∙ w.in_default.is)),
      )
    ]

pub returns-clause-rows : goal.returns-clause-rows
returns-clause-rows c p l =
    let d = c.args.directory.now in
    let high = c.loop-number.invariant.0 in
    let low = c.loop-number-test.false in
    let whole : c.loop-number.number ≡ 1024 = omega (arith, high, low) in
    subst (λ (l' : List Changed). Contains l' (p, l) ↔ (rec_lsn_at d p ≡ Some l)) (sym c.of.ensures)
    ((all-recs (rec_lsn_at d) c.loop-number.rows.items
    (subst (λ (n : ℕ). HasRecs (rec_lsn_at d) n c.loop-number.rows.items) whole c.loop-number.invariant.1)
    (λ q far. none-there (rec_lsn_at d q) (c.keeps.ensures.marked q ∙ ap changed (c.keeps.ensures.past q far)))).0 p l)

pub returns-clause-spelled : goal.returns-clause-spelled
returns-clause-spelled c =
    let d = c.args.directory.now in
    let high = c.loop-number.invariant.0 in
    let low = c.loop-number-test.false in
    let whole : c.loop-number.number ≡ 1024 = omega (arith, high, low) in
    subst AreRecs (sym c.of.ensures)
    ((all-recs (rec_lsn_at d) c.loop-number.rows.items
    (subst (λ (n : ℕ). HasRecs (rec_lsn_at d) n c.loop-number.rows.items) whole c.loop-number.invariant.1)
    (λ q far. none-there (rec_lsn_at d q) (c.keeps.ensures.marked q ∙ ap changed (c.keeps.ensures.past q far)))).1)

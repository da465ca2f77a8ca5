use Rattle.std.proofs.Common.{◌≡◌, ℕ, List, Option, cond, eqb, ◌&&◌, max, subst, sym, ap, ◌∙◌, arith}
use Rattle.sd_base.specs.declared.ids.Rid.{Rid}
use Rattle.sd_base.specs.declared.ids.TxnId.{TxnId}
use Rattle.sd_base.specs.Ids.{same_txn}
use Rattle.sd_recovered.specs.declared.last_changes.Last.{Last}
use Rattle.sd_recovered.specs.Others.{of_others, seen_in, told}
use Rattle.sd_recovered.proofs.Lasts.{by_order, put-seen}
use Rattle.sd_recovered.proofs.last_changes.LastChanges.put.Goals as goal
use Rattle.sd_recovered.proofs.last_changes.LastChanges.put.Goals.{in-Some, in-None}

abbrev More : TxnId → ℕ → Last → Option Last → Type 0
More u l last found = (t : TxnId) → of_others last t ≡ cond (same_txn u t) (told found t) (max l (told found t))

max_none : (l : ℕ) → l ≡ max l 0
max_none l = omega arith

pub returns : goal.returns
returns c =
    let u = c.args.txn in let l = c.args.lsn in let rid = c.args.rid in
    let inside = c.match-get.self-inside.lasts.entries in
    let same : inside ≡ c.self.inside.lasts.entries = elim c.match-get.branch [
      | in-Some w ↦ ap (λ b. b.lasts.entries) w.self-inside-is
      | in-None w ↦ ap (λ b. b.lasts.entries) w.self-inside-is
    ] in
    let more : More u l c.match-get.last (by_order rid c.self.inside.lasts.entries) =
    elim c.match-get.branch [
      | in-Some w ↦ subst (λ (x : Last). More u l x (by_order rid c.self.inside.lasts.entries)) (sym w.last-is)
          (subst (More u l w.and-last.result) w.in-Some.ensures.value w.and-last.ensures)
      | in-None w ↦ subst (λ (x : Last). More u l x (by_order rid c.self.inside.lasts.entries)) (sym w.last-is)
          (subst (More u l w.first-last.result) w.in-None.ensures.value
          (λ t. w.first-last.ensures t ∙ ap (λ (n : ℕ). cond (same_txn u t) 0 n) (max_none l)))
    ] in
    λ t p s.
    subst (λ (old : List (Rid × Last)). seen_in c.insert.new.self.entries t p s
    ≡ cond (eqb rid.page p && eqb rid.slot s) (cond (same_txn u t) (seen_in old t p s) (max l (seen_in old t p s))) (seen_in old t p s))
    (same ∙ c.self.view_is)
    (put-seen rid u l c.match-get.last inside c.insert.new.self.entries
    (subst (λ (old : List (Rid × Last)). More u l c.match-get.last (by_order rid old)) (sym same) more)
    c.in_ok-insert.ensures.updates.0 t p s)

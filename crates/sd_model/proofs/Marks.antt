-- Marks and targets of rollbacks are at most the number of live puts.
use Rattle.std.proofs.Common.{◌≡◌, ℕ, ◌≤◌, ◌<◌, Bool, true, false, cond, leb, List, [], ◌∷◌, Option, None, Some, refl, sym, ap, subst, arith, length, filter}
use Rattle.sd_base.specs.declared.ids.TxnId.{TxnId}
use Rattle.sd_model.specs.declared.act.Act.{Act}
use Rattle.sd_model.specs.declared.act.Life.{Life}
use Rattle.sd_model.specs.declared.act.Life.TheVariants.{Gone, Running, Retained, Rolling, Doubt}
use Rattle.sd_model.specs.Words.{same_word}
use Rattle.sd_model.specs.Acts.{Puts, undone, live}
use Rattle.sd_model.specs.State.{State, Part, put_part, lost, lost_part}
use Rattle.sd_model.specs.Changes.{mark_of, with_mark, goal, undid_part}
use Rattle.sd_model.specs.Marks.{AtMost, Goes, Sized, Marked}
use Rattle.sd_model.proofs.Acts.{live_from-append}
use Rattle.sd_base.proofs.SameIds.{each_txn}

at_most-more : (n k : ℕ) (marks : List (List ℕ × ℕ)) → n ≤ k → AtMost n marks → AtMost k marks
at_most-more n k [] le a = tt
at_most-more n k (x ∷ marks) le a = (omega (arith, le, a.0), at_most-more n k marks le a.1)

goes-more : (n k : ℕ) (l : Life) → n ≤ k → Goes n l → Goes k l
goes-more n k Gone le g = tt
goes-more n k Running le g = tt
goes-more n k Retained le g = tt
goes-more n k (Doubt cut) le g = tt
goes-more n k (Rolling None) le g = tt
goes-more n k (Rolling (Some j)) le g = omega (arith, le, g)

pub put-marked : (m : State) (t : TxnId) (p : Part) → Sized p → Marked m → Marked (put_part t p m)
put-marked m t p s k = record { sized = each_txn t (λ u (x : Part). Sized x) p m.part s (λ u ne. k.sized u) }

-- more acts, with no fewer live puts
pub sized-more : (p : Part) (acts : List Act) → length (live p.acts) ≤ length (live acts) → Sized p → Sized (record p { acts = acts })
sized-more p acts le s = record { marks = at_most-more (length (live p.acts)) (length (live acts)) p.marks le s.marks; target = goes-more (length (live p.acts)) (length (live acts)) p.life le s.target }

with_mark-at_most : (k : List ℕ) (n : ℕ) (marks : List (List ℕ × ℕ)) → AtMost n marks → AtMost n (with_mark k n marks)
with_mark-at_most k n [] a = (omega arith, tt)
with_mark-at_most k n (x ∷ marks) a = go (same_word k x.0) (with_mark-at_most k n marks a.1)
  where
    go : (b : Bool) → AtMost n (with_mark k n marks) → AtMost n (cond {A = List (List ℕ × ℕ)} b ((k, n) ∷ marks) (x ∷ with_mark k n marks))
    go true ih = (omega arith, a.1)
    go false ih = (a.0, ih)

pub marked-sized : (p : Part) (k : List ℕ) → Sized p → Sized (record p { marks = with_mark k (length (live p.acts)) p.marks })
marked-sized p k s = record { marks = with_mark-at_most k (length (live p.acts)) p.marks s.marks; target = s.target }

mark_of-at_most : (k : List ℕ) (n j : ℕ) (marks : List (List ℕ × ℕ)) → AtMost n marks → mark_of k marks ≡ Some j → j ≤ n
mark_of-at_most k n j [] a e = absurd (cc)
mark_of-at_most k n j (x ∷ marks) a e = go (same_word k x.0) (mark_of-at_most k n j marks a.1) e
  where
    go : (b : Bool) → (mark_of k marks ≡ Some j → j ≤ n) → cond {A = Option ℕ} b (Some x.1) (mark_of k marks) ≡ Some j → j ≤ n
    go true ih f = let is : x.1 ≡ j = cc in omega (arith, is, a.0)
    go false ih f = ih f

pub back-sized : (p : Part) (k : List ℕ) (j : ℕ) → mark_of k p.marks ≡ Some j → Sized p → Sized (record p { life = Rolling (Some j) })
back-sized p k j e s = record { marks = s.marks; target = mark_of-at_most k (length (live p.acts)) j p.marks s.marks e }

pub lost-sized : (p : Part) → Sized (lost_part p)
lost-sized p = record { marks = tt; target = go p.life }
  where
    go : (l : Life) → Goes (length (live p.acts)) (lost l)
    go Gone = tt
    go Running = tt
    go Retained = tt
    go (Doubt cut) = tt
    go (Rolling to) = tt

-- a rollback either has something to undo or has reached its target
pub rolls-on : (p : Part) (to : Option ℕ) → p.life ≡ Rolling to → Sized p → goal to ≤ length (live p.acts)
rolls-on p None e s = omega arith
rolls-on p (Some j) e s = subst (Goes (length (live p.acts))) e s.target

leb_le : (a b : ℕ) → leb a b ≡ true → a ≤ b
leb_le a b e = grind (arith, e)

kept-at_most : (n : ℕ) (marks : List (List ℕ × ℕ)) → AtMost n (filter (λ (x : List ℕ × ℕ). leb x.1 n) marks)
kept-at_most n [] = tt
kept-at_most n (x ∷ marks) = go (leb x.1 n) refl (kept-at_most n marks)
  where
    go : (b : Bool) → leb x.1 n ≡ b → AtMost n (filter (λ (y : List ℕ × ℕ). leb y.1 n) marks) → AtMost n (cond {A = List (List ℕ × ℕ)} b (x ∷ filter (λ (y : List ℕ × ℕ). leb y.1 n) marks) (filter (λ (y : List ℕ × ℕ). leb y.1 n) marks))
    go true e ih = (leb_le x.1 n e, ih)
    go false e ih = ih

fewer : (k : ℕ) (puts : Puts) → k < length puts → k ≤ length (undone puts)
fewer k [] lt = omega (arith, lt)
fewer k (p ∷ puts) lt = omega (arith, lt)

undone-goes : (l : Life) (to : Option ℕ) (puts : Puts) → l ≡ Rolling to → goal to < length puts → Goes (length (undone puts)) l
undone-goes l None puts e lt = subst (Goes (length (undone puts))) (sym e) tt
undone-goes l (Some k) puts e lt = subst (Goes (length (undone puts))) (sym e) (fewer k puts lt)

pub undid-sized : (p : Part) (to : Option ℕ) → p.life ≡ Rolling to → goal to < length (live p.acts) → Sized (undid_part p)
undid-sized p to e lt =
    let n = ap length (sym (live_from-append [] p.acts (Act.Undo ∷ []))) in
    record { marks = subst (λ (k : ℕ). AtMost k (undid_part p).marks) n (kept-at_most (length (undone (live p.acts))) p.marks); target = subst (λ (k : ℕ). Goes k p.life) n (undone-goes p.life to (live p.acts) e lt) }

-- The last live put of a record, found from the end. It serves the goals of values.rt.
use Rattle.std.proofs.Common.{◌≡◌, ℕ, suc, ◌+◌, ◌-◌, ◌<◌, Bool, true, false, cond, List, [], ◌∷◌, ◌++◌, length, drop, take, get_or, refl, sym, ap, ◌∙◌, arith, add-one}
use Rattle.std.proofs.Math.Seq.{take-suc, drop-nil}
use Rattle.sd_base.specs.declared.ids.Rid.{Rid}
use Rattle.sd_model.specs.declared.act.Act.{Act}
use Rattle.sd_model.specs.declared.act.Act.TheVariants.{Read, Put, Undo}
use Rattle.sd_model.specs.declared.act.Done.{Done}
use Rattle.sd_base.specs.Ids.{same_rid}
use Rattle.sd_model.specs.Tables.{Content, Contents}
use Rattle.sd_model.specs.Acts.{Puts, undone, live_from, live, seen_over, after}
use Rattle.sd_model.proofs.Acts.{live_from-append}
use Rattle.sd_model.proofs.Swap.{after-agree}

-- what is seen depends on the first acts alone, less the puts that later undos took back
abbrev pub Scanned : List Act → ℕ → ℕ → Rid → Type 0
Scanned acts left undos r = (base : Contents) → seen_over base (live acts) r ≡ seen_over base (drop undos (live (take left acts))) r

-- an act is the last one of the first acts
pub record IsLast (acts : List Act) (n left : ℕ) (a b : Act) : Type 0 where
  pub next : left ≡ suc n
  pub within : n < length acts
  pub item : a ≡ get_or acts n a
  pub is : a ≡ b

live-back : (acts : List Act) (n left : ℕ) (a b : Act) → IsLast acts n left a b → live (take left acts) ≡ live_from (live (take n acts)) (b ∷ [])
live-back acts n left a b h = ap (λ k. live (take k acts)) h.next
    ∙ (ap live (take-suc acts n a h.within ∙ ap (λ x. take n acts ++ x ∷ []) (sym h.item ∙ h.is)) ∙ live_from-append [] (take n acts) (b ∷ []))

drop-undone : (u : ℕ) (puts : Puts) → drop u (undone puts) ≡ drop (u + 1) puts
drop-undone u [] = drop-nil u ∙ sym (drop-nil (u + 1))
drop-undone u (p ∷ puts) = ap (λ k. drop k (p ∷ puts)) (sym (add-one u))

pub back-read : (acts : List Act) (n left undos : ℕ) (r q : Rid) (v : Content) (a : Act) → IsLast acts n left a (Read q v) → Scanned acts left undos r → Scanned acts n undos r
back-read acts n left undos r q v a i h = λ base. h base ∙ ap (λ l. seen_over base (drop undos l) r) (live-back acts n left a (Read q v) i)

pub back-undo : (acts : List Act) (n left undos : ℕ) (r : Rid) (a : Act) → IsLast acts n left a Undo → Scanned acts left undos r → Scanned acts n (undos + 1) r
back-undo acts n left undos r a i h = λ base. h base ∙ (ap (λ l. seen_over base (drop undos l) r) (live-back acts n left a Undo i) ∙ ap (λ l. seen_over base l r) (drop-undone undos (live (take n acts))))

pub back-skip : (acts : List Act) (n left undos fewer : ℕ) (r q : Rid) (v : Content) (a : Act) → IsLast acts n left a (Put q v) → undos ≡ suc fewer → Scanned acts left undos r → Scanned acts n fewer r
back-skip acts n left undos fewer r q v a i f h = λ base. h base ∙ (ap (λ l. seen_over base (drop undos l) r) (live-back acts n left a (Put q v) i) ∙ ap (λ k. seen_over base (drop k ((q, v) ∷ live (take n acts))) r) f)

put-first : (acts : List Act) (n left undos : ℕ) (r q : Rid) (v : Content) (a : Act) (b : Bool) → IsLast acts n left a (Put q v) → undos ≡ 0 → same_rid q r ≡ b → Scanned acts left undos r
    → (base : Contents) → seen_over base (live acts) r ≡ cond b v (seen_over base (live (take n acts)) r)
put-first acts n left undos r q v a b i z same h base = h base ∙ (ap (λ l. seen_over base (drop undos l) r) (live-back acts n left a (Put q v) i)
    ∙ (ap (λ k. seen_over base (drop k ((q, v) ∷ live (take n acts))) r) z ∙ ap (λ t. cond t v (seen_over base (live (take n acts)) r)) same))

pub back-other : (acts : List Act) (n left undos : ℕ) (r q : Rid) (v : Content) (a : Act) → IsLast acts n left a (Put q v) → undos ≡ 0 → same_rid q r ≡ false → Scanned acts left undos r → Scanned acts n undos r
back-other acts n left undos r q v a i z same h = λ base. put-first acts n left undos r q v a false i z same h base ∙ ap (λ k. seen_over base (drop k (live (take n acts))) r) (sym z)

pub back-here : (acts : List Act) (n left undos : ℕ) (r q : Rid) (v : Content) (a : Act) → IsLast acts n left a (Put q v) → undos ≡ 0 → same_rid q r ≡ true → Scanned acts left undos r
    → (base : Contents) → seen_over base (live acts) r ≡ v
back-here acts n left undos r q v a i z same h base = put-first acts n left undos r q v a true i z same h base

-- what is seen of one record over a table depends on that record of the table alone
pub after-of : (start : Contents) (x : Content) (done : List Done) (r : Rid) → x ≡ start r → after (λ _. x) done r ≡ after start done r
after-of start x done r e = after-agree (λ _. x) start done r e

-- the number of live puts, where so many were live before
abbrev pub count_from : ℕ → List Act → ℕ
count_from n [] = n
count_from n (Read r v ∷ acts) = count_from n acts
count_from n (Put r v ∷ acts) = count_from (n + 1) acts
count_from n (Undo ∷ acts) = count_from (n - 1) acts

length-undone : (puts : Puts) → length puts - 1 ≡ length (undone puts)
length-undone [] = refl
length-undone (p ∷ puts) = omega arith

pub count-live : (puts : Puts) (acts : List Act) → count_from (length puts) acts ≡ length (live_from puts acts)
count-live puts [] = refl
count-live puts (Read r v ∷ acts) = count-live puts acts
count-live puts (Put r v ∷ acts) = ap (λ n. count_from n acts) (add-one (length puts)) ∙ count-live ((r, v) ∷ puts) acts
count-live puts (Undo ∷ acts) = ap (λ n. count_from n acts) (length-undone puts) ∙ count-live (undone puts) acts

-- what one act makes of the number
abbrev pub count_one : ℕ → Act → ℕ
count_one n (Read r v) = n
count_one n (Put r v) = n + 1
count_one n Undo = n - 1

pub count-one : (n : ℕ) (a : Act) (acts : List Act) → count_from n (a ∷ acts) ≡ count_from (count_one n a) acts
count-one n (Read r v) acts = refl
count-one n (Put r v) acts = refl
count-one n Undo acts = refl

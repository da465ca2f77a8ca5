-- Walks told from their ends and from their starts, and what the first of them says of cycles. It serves the goals of deadlock.rt.
use Rattle.std.proofs.Common.{◌≡◌, ◌⊎◌, suc, ◌+◌, ◌<◌, ◌≤◌, List, [], ◌∷◌, ◌++◌, length, reverse, Option, Some, refl, sym, ap, subst, ◌∙◌, inl, inr, ⊎_elim, arith}
use Rattle.std.proofs.lemmas.Bool.{cases_lt}
use Rattle.std.proofs.lemmas.List.{append-nil, append_assoc, reverse-append, reverse-reverse, length-reverse}
use Rattle.std.specs.Option.{IfSome}
use Rattle.sd_base.specs.declared.ids.TxnId.{TxnId}
use Rattle.sd_base.specs.Ids.{IsBelow}
use Rattle.sd_base.specs.Waits.{Wait, Waits, WaitsFor, Obstacles, ComesBefore, EndsWith, IsChain, IsCycle, IsDeadlock, asking}
use Rattle.sd_reclock.specs.Reaching.{Steps, IsBack, IsEarlier, Precedes}
use Rattle.sd_base.proofs.Orders.{not_below_itself, below_trans}

earlier_trans : (a b c : List TxnId) → IsEarlier a b → IsEarlier b c → IsEarlier a c
earlier_trans [] b c h k = absurd h
earlier_trans (x ∷ xs) [] c h k = absurd h
earlier_trans (x ∷ xs) (y ∷ ys) [] h k = absurd k
earlier_trans (x ∷ xs) (y ∷ ys) (z ∷ zs) h k = ⊎_elim
    (λ e. ⊎_elim (λ f. inl (earlier_trans xs ys zs e f)) (λ f. inl (subst (λ (ws : List TxnId). IsEarlier xs ws) f.0 e)) k)
    (λ e. ⊎_elim (λ f. inl (subst (λ (ws : List TxnId). IsEarlier ws zs) (sym e.0) f)) (λ f. inr (e.0 ∙ f.0, below_trans x y z e.1 f.1)) k)
    h

pub precedes_trans : (a b c : List TxnId) → Precedes a b → Precedes b c → Precedes a c
precedes_trans a b c h k = ⊎_elim
    (λ l. ⊎_elim (λ m. inl (omega arith)) (λ m. let e = m.0 in inl (omega arith)) k)
    (λ l. let e = l.0 in ⊎_elim (λ m. inl (omega arith)) (λ m. let f = m.0 in inr (e ∙ f, earlier_trans a b c l.1 m.1)) k)
    h

pub precedes_length : (a b : List TxnId) → Precedes a b → length a ≤ length b
precedes_length a b h = ⊎_elim (λ l. omega arith) (λ l. let e = l.0 in omega arith) h

-- one step more, to whomever
pub precedes_more : (x y : TxnId) (a b : List TxnId) → Precedes a b → Precedes (x ∷ a) (y ∷ b)
precedes_more x y a b h = ⊎_elim (λ l. inl (omega arith)) (λ l. inr (ap suc l.0, inl l.1)) h

-- one step more, to the lower one
pub precedes_below : (x y : TxnId) (a : List TxnId) → IsBelow x y → Precedes (x ∷ a) (y ∷ a)
precedes_below x y a b = inr (refl, inr (refl, b))

-- to one end
pub precedes_less : (x : TxnId) (a b : List TxnId) → Precedes (x ∷ a) (x ∷ b) → Precedes a b
precedes_less x a b h = ⊎_elim
    (λ l. inl (omega arith))
    (λ l. let e = l.0 in ⊎_elim (λ f. inr (omega arith, f)) (λ f. absurd (not_below_itself x f.1)) l.1)
    h

reverse_cons : (x : TxnId) (xs : List TxnId) → reverse (x ∷ xs) ≡ reverse xs ++ x ∷ []
reverse_cons x xs = reverse-append (x ∷ []) xs

before_push : (fs gs : List TxnId) (x y : TxnId) → length fs ≡ length gs → ComesBefore (fs ++ x ∷ []) (gs ++ y ∷ []) → ComesBefore fs gs ⊎ ((fs ≡ gs) × IsBelow x y)
before_push [] [] x y e h = ⊎_elim (λ b. inr (refl, b)) (λ b. absurd b.1) h
before_push [] (b ∷ gs) x y e h = absurd (omega (arith, e))
before_push (a ∷ fs) [] x y e h = absurd (omega (arith, e))
before_push (a ∷ fs) (b ∷ gs) x y e h = ⊎_elim
    (λ f. inl (inl f))
    (λ f. ⊎_elim
    (λ g. inl (inr (f.0, g)))
    (λ g. inr (ap (λ (z : TxnId). z ∷ fs) f.0 ∙ ap (λ (zs : List TxnId). b ∷ zs) g.0, g.1))
    (before_push fs gs x y (omega (arith, e)) f.1))
    h

-- the order of walks is the same from their ends
pub earlier_from_before : (xs ys : List TxnId) → length xs ≡ length ys → ComesBefore (reverse xs) (reverse ys) → IsEarlier xs ys
earlier_from_before [] ys e h = h
earlier_from_before (x ∷ xs) [] e h = absurd (omega (arith, e))
earlier_from_before (x ∷ xs) (y ∷ ys) e h =
    let short : length xs ≡ length ys = omega (arith, e) in
    ⊎_elim
    (λ f. inl (earlier_from_before xs ys short f))
    (λ f. inr (sym (reverse-reverse xs) ∙ ap reverse f.0 ∙ reverse-reverse ys, f.1))
    (before_push (reverse xs) (reverse ys) x y (length-reverse xs ∙ short ∙ sym (length-reverse ys))
    (subst (λ (zs : List TxnId). ComesBefore (reverse xs ++ x ∷ []) zs) (reverse_cons y ys) (subst (λ (zs : List TxnId). ComesBefore zs (reverse (y ∷ ys))) (reverse_cons x xs) h)))

-- a walk from u that ends with t goes through these
abbrev pub IsTail : Steps → TxnId → TxnId → List TxnId → Type 0
IsTail steps t u [] = u ≡ t
IsTail steps t u (v ∷ vs) = steps u v × IsTail steps t v vs

turned : (u : TxnId) (back tail : List TxnId) → reverse (u ∷ back) ++ tail ≡ reverse back ++ u ∷ tail
turned u back tail = ap (λ (xs : List TxnId). xs ++ tail) (reverse_cons u back) ∙ append_assoc (reverse back) (u ∷ []) tail

-- a walk that is told from its end, from its start
pub tail_from_back : (steps : Steps) (t e u : TxnId) (back tail : List TxnId) → IsBack steps t u back → IsTail steps e u tail
    → (whole : List TxnId) × (reverse (u ∷ back) ++ tail ≡ t ∷ whole) × IsTail steps e t whole × (length whole ≡ length back + length tail)
tail_from_back steps t e u [] tail h k = (tail, ap (λ (x : TxnId). x ∷ tail) h, subst (λ (x : TxnId). IsTail steps e x tail) h k, omega arith)
tail_from_back steps t e u (v ∷ vs) tail h k =
    let rest = tail_from_back steps t e v vs (u ∷ tail) h.1 (h.0, k) in
    let long = rest.3 in
    (rest.0, turned u (v ∷ vs) tail ∙ rest.1, rest.2, omega arith)

-- and the other way round
pub back_from_tail : (steps : Steps) (t e u : TxnId) (back tail : List TxnId) → IsBack steps t u back → IsTail steps e u tail
    → (whole : List TxnId) × (reverse (u ∷ back) ++ tail ≡ reverse (e ∷ whole)) × IsBack steps t e whole × (length whole ≡ length back + length tail)
back_from_tail steps t e u back [] h k = (back, append-nil (reverse (u ∷ back)) ∙ ap (λ (x : TxnId). reverse (x ∷ back)) k, subst (λ (x : TxnId). IsBack steps t x back) k h, omega arith)
back_from_tail steps t e u back (v ∷ vs) h k =
    let rest = back_from_tail steps t e v (u ∷ back) vs (k.0, h) k.1 in
    let long = rest.3 in
    (rest.0, sym (turned v (u ∷ back) vs) ∙ rest.1, rest.2, omega arith)

-- a chain that ends with t is a walk to t
tail_from_chain : (stands : Obstacles) (waits : Waits) (t u v : TxnId) (ts : List TxnId) → EndsWith t (v ∷ ts) → IsChain stands waits (u ∷ v ∷ ts) → IsTail (WaitsFor stands waits) t u (v ∷ ts)
tail_from_chain stands waits t u v [] ends chain = (chain.0, ends)
tail_from_chain stands waits t u v (w ∷ ws) ends chain = (chain.0, tail_from_chain stands waits t v w ws ends chain.1)

ends_from_tail : (stands : Obstacles) (waits : Waits) (t u v : TxnId) (ts : List TxnId) → IsTail (WaitsFor stands waits) t u (v ∷ ts) → EndsWith t (v ∷ ts)
ends_from_tail stands waits t u v [] h = h.1
ends_from_tail stands waits t u v (w ∷ ws) h = ends_from_tail stands waits t v w ws h.1

chain_from_tail : (stands : Obstacles) (waits : Waits) (t u v : TxnId) (ts : List TxnId) → IsTail (WaitsFor stands waits) t u (v ∷ ts) → IsChain stands waits (u ∷ v ∷ ts)
chain_from_tail stands waits t u v [] h = (h.0, tt)
chain_from_tail stands waits t u v (w ∷ ws) h = (h.0, chain_from_tail stands waits t v w ws h.1)

-- a cycle is a walk from t to t
walk_from_cycle : (stands : Obstacles) (waits : Waits) (t u v : TxnId) (ts : List TxnId) → IsCycle stands waits t (u ∷ v ∷ ts) → IsTail (WaitsFor stands waits) t t (v ∷ ts)
walk_from_cycle stands waits t u v ts h = subst (λ (x : TxnId). IsTail (WaitsFor stands waits) t x (v ∷ ts)) h.0 (tail_from_chain stands waits t u v ts h.1 h.2)

cycle_from_walk : (stands : Obstacles) (waits : Waits) (t : TxnId) (tail : List TxnId) → 0 < length tail → IsTail (WaitsFor stands waits) t t tail → IsCycle stands waits t (t ∷ tail)
cycle_from_walk stands waits t [] l h = absurd (omega arith)
cycle_from_walk stands waits t (v ∷ ts) l h = (refl, ends_from_tail stands waits t t v ts h, chain_from_tail stands waits t t v ts h)

-- a cycle, told from its end
back_from_cycle : (stands : Obstacles) (waits : Waits) (t u v : TxnId) (ts : List TxnId) → IsCycle stands waits t (u ∷ v ∷ ts)
    → (back : List TxnId) × (u ∷ v ∷ ts ≡ reverse (t ∷ back)) × IsBack (WaitsFor stands waits) t t back × (length back ≡ suc (length ts))
back_from_cycle stands waits t u v ts h =
    let rest = back_from_tail (WaitsFor stands waits) t t t [] (v ∷ ts) refl (walk_from_cycle stands waits t u v ts h) in
    let long = rest.3 in
    (rest.0, ap (λ (x : TxnId). x ∷ v ∷ ts) h.0 ∙ rest.1, rest.2, omega arith)

-- where no walk of a step or more leads back, there is no cycle
pub no_cycle : (stands : Obstacles) (waits : Waits) (t : TxnId) → ((back : List TxnId) → 0 < length back → IsBack (WaitsFor stands waits) t t back → ⊥) → (cycle : List TxnId) → IsCycle stands waits t cycle → ⊥
no_cycle stands waits t never [] h = h
no_cycle stands waits t never (u ∷ []) h = h
no_cycle stands waits t never (u ∷ v ∷ ts) h =
    let b = back_from_cycle stands waits t u v ts h in
    let long = b.3 in
    never b.0 (omega arith) b.2

-- the first of the walks that lead back is the cycle that is told
pub told_cycle : (stands : Obstacles) (waits : Waits) (t : TxnId) (wait : Wait) (back : List TxnId) → 0 < length back → IsBack (WaitsFor stands (asking t wait waits)) t t back
    → ((other : List TxnId) → 0 < length other → IsBack (WaitsFor stands (asking t wait waits)) t t other → Precedes other back → ⊥) → IsDeadlock stands waits t wait (reverse (t ∷ back))
told_cycle stands waits t wait back some leads first = record {
  closes = subst (λ (xs : List TxnId). IsCycle stands (asking t wait waits) t xs) (sym is) (cycle_from_walk stands (asking t wait waits) t whole.0 (omega (arith, whole.3)) whole.2);
  shortest = λ other h. short other h;
  lowest = λ other h same before. lower other h same before;
}
  where
    whole : (xs : List TxnId) × (reverse (t ∷ back) ++ [] ≡ t ∷ xs) × IsTail (WaitsFor stands (asking t wait waits)) t t xs × (length xs ≡ length back + length {A = TxnId} [])
    whole = tail_from_back (WaitsFor stands (asking t wait waits)) t t t back [] leads refl

    is : reverse (t ∷ back) ≡ t ∷ whole.0
    is = sym (append-nil (reverse (t ∷ back))) ∙ whole.1

    short : (other : List TxnId) → IsCycle stands (asking t wait waits) t other → length (reverse (t ∷ back)) ≤ length other
    short [] h = absurd h
    short (u ∷ []) h = absurd h
    short (u ∷ v ∷ ts) h =
        let b = back_from_cycle stands (asking t wait waits) t u v ts h in
        let long = b.3 in
        let size = length-reverse (t ∷ back) in
        ⊎_elim (λ l. absurd (first b.0 (omega arith) b.2 (inl l))) (λ l. omega arith) (cases_lt (length b.0) (length back))

    lower : (other : List TxnId) → IsCycle stands (asking t wait waits) t other → length other ≡ length (reverse (t ∷ back)) → ComesBefore other (reverse (t ∷ back)) → ⊥
    lower [] h same before = h
    lower (u ∷ []) h same before = h
    lower (u ∷ v ∷ ts) h same before =
        let b = back_from_cycle stands (asking t wait waits) t u v ts h in
        let long = b.3 in
        let size = length-reverse (t ∷ back) in
        let equal : length b.0 ≡ length back = omega arith in
        ⊎_elim
        (λ e. first b.0 (omega arith) b.2 (inr (equal, e)))
        (λ e. not_below_itself t e.1)
        (earlier_from_before (t ∷ b.0) (t ∷ back) (ap suc equal) (subst (λ (xs : List TxnId). ComesBefore xs (reverse (t ∷ back))) b.1 before))

pub at_some : (o : Option TxnId) (x : TxnId) (P : TxnId → Type 0) → o ≡ Some x → IfSome o P → P x
at_some o x P e h = let Q : Option TxnId → Type 0 = λ y. IfSome y P in subst Q e h

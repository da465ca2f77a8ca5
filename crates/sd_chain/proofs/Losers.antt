-- The open transactions of all logs: for the goals of `losers` in laws.rt, and lent to the crates above.
use Rattle.std.proofs.Common.{◌≡◌, ◌≢◌, ◌⊎◌, inl, inr, ⊎_elim, ℕ, zero, suc, ◌≤◌, ◌<◌, Bool, true, false, ◌||◌, refl, sym, subst, ap, ◌∙◌, List, [], ◌∷◌, ◌++◌, arith}
use Rattle.std.specs.List.{list_any}
use Rattle.std.proofs.lemmas.Bool.{cases_Bool}
use Rattle.sd_base.specs.declared.ids.TxnId.{TxnId}
use Rattle.sd_base.specs.Ids.{same_txn}
use Rattle.sd_logrec.specs.View.{Rec}
use Rattle.sd_chain.specs.Records.{Each, home, IsOpen, stack}
use Rattle.sd_chain.specs.Order.{speaks, of_txn}
use Rattle.sd_chain.specs.Storage.{Storage, Sound, Recovered, Open, opens}
use Rattle.sd_chain.specs.Undoing.{Member, Apart}
use Rattle.sd_chain.specs.Checks.{open_in}
use Rattle.sd_chain.specs.Laws.{AreOpen}
use Rattle.sd_chain.proofs.Lists.{Each-append}
use Rattle.sd_chain.proofs.StartMoved.{stack_from-none}
use Rattle.sd_chain.proofs.Recover.{recovered-undo_all}
use Rattle.sd_chain.proofs.Whose.{both, of_none, own_is}
use Rattle.sd_chain.proofs.Members.{apart-open_in, open_in-is, is-open_in}
use Rattle.sd_chain.specs.Fates.{Fate, fate_in}
use Rattle.sd_chain.proofs.Fates.{open-fate, fate-open}
use Rattle.sd_chain.specs.Losers.{OwnLogs, insts, listed, losers_in, table_in}

member-left : (t : TxnId) (xs ys : List TxnId) → Member t xs → Member t (xs ++ ys)
member-left t [] ys m = absurd m
member-left t (x ∷ xs) ys (inl e) = inl e
member-left t (x ∷ xs) ys (inr m) = inr (member-left t xs ys m)

member-right : (t : TxnId) (xs ys : List TxnId) → Member t ys → Member t (xs ++ ys)
member-right t [] ys m = m
member-right t (x ∷ xs) ys m = inr (member-right t xs ys m)

member-split : (t : TxnId) (xs ys : List TxnId) → Member t (xs ++ ys) → Member t xs ⊎ Member t ys
member-split t [] ys m = inr m
member-split t (x ∷ xs) ys (inl e) = inl (inl e)
member-split t (x ∷ xs) ys (inr m) = ⊎_elim (λ h. inl (inr h)) (λ h. inr h) (member-split t xs ys m)

-- what holds of each member
pub each-member : (P : TxnId → Type 0) (xs : List TxnId) → ((t : TxnId) → Member t xs → P t) → Each P xs
each-member P [] f = tt
each-member P (x ∷ xs) f = (f x (inl refl), each-member P xs (λ t m. f t (inr m)))

apart-append : (xs ys : List TxnId) → Apart xs → Apart ys → ((t : TxnId) → Member t xs → Member t ys → ⊥) → Apart (xs ++ ys)
apart-append [] ys a b far = b
apart-append (x ∷ xs) ys a b far = (
  Each-append (λ u. x ≢ u) xs ys a.0 (each-member (λ u. x ≢ u) ys (λ u m e. far x (inl refl) (subst (λ (v : TxnId). Member v ys) (sym e) m))),
  apart-append xs ys a.1 b (λ t m n. far t (inr m) n),
)

rest_of : (a b : Bool) → a ≡ false → (a || b) ≡ true → b ≡ true
rest_of true b off some = absurd (cc)
rest_of false b off some = some

named : (j : ℕ) (t : TxnId) (xs : List Rec) → Each (λ (x : Rec). speaks x.kind ≡ true → home x.txn ≡ j) xs → list_any (of_txn t) xs ≡ true → home t ≡ j
named j t [] own some = absurd (cc)
named j t (x ∷ xs) own some = ⊎_elim
    (λ is. subst (λ (u : TxnId). home u ≡ j) (own_is t x is) (own.0 (both (speaks x.kind) (same_txn x.txn t) is).0))
    (λ off. named j t xs own.1 (rest_of (of_txn t x) (list_any (of_txn t) xs) off some))
    (cases_Bool (of_txn t x))

-- n is listed
abbrev pub Elem : ℕ → List ℕ → Type 0
Elem n [] = ⊥
Elem n (j ∷ js) = (n ≡ j) ⊎ Elem n js

where_is : (n : ℕ) → (n ≡ 0) ⊎ ((9 ≤ n) ⊎ Elem n insts)
where_is zero = inl refl
where_is (suc zero) = inr (inr (inl refl))
where_is (suc (suc zero)) = inr (inr (inr (inl refl)))
where_is (suc (suc (suc zero))) = inr (inr (inr (inr (inl refl))))
where_is (suc (suc (suc (suc zero)))) = inr (inr (inr (inr (inr (inl refl)))))
where_is (suc (suc (suc (suc (suc zero))))) = inr (inr (inr (inr (inr (inr (inl refl))))))
where_is (suc (suc (suc (suc (suc (suc zero)))))) = inr (inr (inr (inr (inr (inr (inr (inl refl)))))))
where_is (suc (suc (suc (suc (suc (suc (suc zero))))))) = inr (inr (inr (inr (inr (inr (inr (inr (inl refl))))))))
where_is (suc (suc (suc (suc (suc (suc (suc (suc zero)))))))) = inr (inr (inr (inr (inr (inr (inr (inr (inr (inl refl)))))))))
where_is (suc (suc (suc (suc (suc (suc (suc (suc (suc n))))))))) = let ge : 9 ≤ suc (suc (suc (suc (suc (suc (suc (suc (suc n)))))))) = omega arith in inr (inl ge)

-- listed once
abbrev pub Once : List ℕ → Type 0
Once [] = Unit {0}
Once (j ∷ js) = (Elem j js → ⊥) × Once js

-- each is above the one before it
abbrev pub Rising : ℕ → List ℕ → Type 0
Rising n [] = Unit {0}
Rising n (j ∷ js) = (n < j) × Rising j js

later : (n m : ℕ) (js : List ℕ) → Rising n js → Elem m js → n < m
later n m [] r e = absurd e
later n m (j ∷ js) r (inl e) = let h = r.0 in omega (arith, h, e)
later n m (j ∷ js) r (inr e) = let h = r.0 in let k = later j m js r.1 e in omega (arith, h, k)

once-rising : (n : ℕ) (js : List ℕ) → Rising n js → Once js
once-rising n [] r = tt
once-rising n (j ∷ js) r = ((λ e. let h = later j j js r.1 e in absurd (omega (arith, h))), once-rising j js r.1)

next : (n : ℕ) → n < suc n
next n = omega arith

insts-once : Once insts
insts-once = once-rising 0 insts (next 0, (next 1, (next 2, (next 3, (next 4, (next 5, (next 6, (next 7, tt))))))))

module _ (img : Storage) (o : OwnLogs img) where
  of_log : (j : ℕ) (t : TxnId) → Member t (open_in (img.logs j)) → home t ≡ j
  of_log j t m = named j t (img.logs j) (o.own j) (open_in-is t (img.logs j) m).1

  at_home : (t : TxnId) (js : List ℕ) → Member t (listed img js) → Elem (home t) js
  at_home t [] m = absurd m
  at_home t (j ∷ js) m = ⊎_elim (λ h. inl (of_log j t h)) (λ h. inr (at_home t js h)) (member-split t (open_in (img.logs j)) (listed img js) m)

  -- a listed one is open
  pub is_open : (t : TxnId) (js : List ℕ) → Member t (listed img js) → Open img t
  is_open t [] m = absurd m
  is_open t (j ∷ js) m = ⊎_elim
      (λ h. subst (λ (n : ℕ). IsOpen t (img.logs n)) (sym (of_log j t h)) (open_in-is t (img.logs j) h).0)
      (λ h. is_open t js h) (member-split t (open_in (img.logs j)) (listed img js) m)

  once : (js : List ℕ) → Once js → Apart (listed img js)
  once [] u = tt
  once (j ∷ js) u = apart-append (open_in (img.logs j)) (listed img js) (apart-open_in (img.logs j)) (once js u.1)
      (λ t m n. u.0 (subst (λ (k : ℕ). Elem k js) (of_log j t m) (at_home t js n)))

  found : (t : TxnId) (js : List ℕ) → Open img t → list_any (of_txn t) (img.logs (home t)) ≡ true → Elem (home t) js → Member t (listed img js)
  found t [] op there e = absurd e
  found t (j ∷ js) op there (inl e) = member-left t (open_in (img.logs j)) (listed img js)
      (subst (λ (n : ℕ). Member t (open_in (img.logs n))) e (is-open_in t (img.logs (home t)) op there))
  found t (j ∷ js) op there (inr e) = member-right t (open_in (img.logs j)) (listed img js) (found t js op there e)

  nothing : (t : TxnId) (xs : List Rec) → img.logs (home t) ≡ xs → list_any (of_txn t) xs ≡ false → opens img t ≡ []
  nothing t xs is none = ap (stack t) is ∙ stack_from-none t [] xs (of_none (of_txn t) xs none)

  all : (t : TxnId) → Open img t → (opens img t ≡ []) ⊎ Member t (losers_in img)
  all t op = ⊎_elim
      (λ there. ⊎_elim (λ z. inl (nothing t [] (ap (λ (n : ℕ). img.logs n) z ∙ o.zero_is) refl))
      (λ rest. ⊎_elim (λ far. inl (nothing t [] (o.beyond (home t) far) refl)) (λ e. inr (found t insts op there e)) rest)
      (where_is (home t)))
      (λ none. inl (nothing t (img.logs (home t)) refl none))
      (cases_Bool (list_any (of_txn t) (img.logs (home t))))

  -- they are listed once each, and no other has anything open
  pub losers-open : AreOpen img (losers_in img)
  losers-open = record { each = each-member (Open img) (losers_in img) (λ t m. is_open t insts m); once = once insts insts-once; all = all }

  there : (t : TxnId) (js : List ℕ) → Member t (listed img js) → list_any (of_txn t) (img.logs (home t)) ≡ true
  there t [] m = absurd m
  there t (j ∷ js) m = ⊎_elim
      (λ h. subst (λ (n : ℕ). list_any (of_txn t) (img.logs n) ≡ true) (sym (of_log j t h)) (open_in-is t (img.logs j) h).1)
      (λ h. there t js h) (member-split t (open_in (img.logs j)) (listed img js) m)

  -- they are those whose fate is open
  pub loser-fate : (t : TxnId) → Member t (losers_in img) → fate_in img t ≡ Fate.Open
  loser-fate t m = open-fate t (img.logs (home t)) (is_open t insts m) (there t insts m)

  pub fate-loser : (t : TxnId) → fate_in img t ≡ Fate.Open → Member t (losers_in img)
  fate-loser t e =
      let f = fate-open t (img.logs (home t)) e in
      ⊎_elim (λ z. missing (ap (λ (n : ℕ). img.logs n) z ∙ o.zero_is) f.1)
      (λ rest. ⊎_elim (λ far. missing (o.beyond (home t) far) f.1) (λ listed. found t insts f.0 f.1 listed) rest)
      (where_is (home t))
    where
      missing : img.logs (home t) ≡ [] → list_any (of_txn t) (img.logs (home t)) ≡ true → Member t (losers_in img)
      missing none some = let c : false ≡ true = sym (ap (list_any (of_txn t)) none) ∙ some in absurd (cc)

  -- undoing them gives what recovery gives
  pub opening-recovers : Sound img → (p s : ℕ) → Recovered img p s (table_in img p s)
  opening-recovers sound p s = let l = losers-open in recovered-undo_all img sound p s (losers_in img) l.each l.once l.all

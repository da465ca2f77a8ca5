-- Values that are undone: by place, and in tables that agree below page 1,024. It serves the goals of undone.
use Rattle.std.proofs.Common.{◌≡◌, ◌≢◌, inl, inr, ⊎_elim, ℕ, ◌<◌, cond, List, [], ◌∷◌, refl, sym, ap, subst, ◌∙◌}
use Rattle.std.specs.Prelude.{filter}
use Rattle.std.proofs.lemmas.Bool.{cases_Bool}
use Rattle.sd_logrec.specs.View.{Rec}
use Rattle.sd_base.specs.declared.ids.TxnId.{TxnId}
use Rattle.sd_chain.specs.Records.{Val, at, Each}
use Rattle.sd_chain.specs.Undoing.{undo_one, undo_all, EachFound, stacks_of, Member}
use Rattle.sd_chain.specs.Storage.{Linked, Storage, opens}
use Rattle.sd_recovered.proofs.Steps.{found-front, found-back}
use Rattle.sd_chain.proofs.Lists.{filter-cons, filter-skip}
use Rattle.sd_chain.proofs.Recover.{undo_one_off, found_linked}
use Rattle.sd_base.proofs.SameIds.{cases_txn}

-- a value at whose place nothing is undone
pub undo-off : (f : ℕ → ℕ → Val) (xs : List Rec) (p s : ℕ) → filter (at p s) xs ≡ [] → undo_all f xs p s ≡ f p s
undo-off f [] p s e = refl
undo-off f (x ∷ xs) p s e = ⊎_elim
    (λ is. let h = sym (filter-cons (at p s) x xs is) ∙ e in absurd (cc))
    (λ is. undo-off (undo_one f x) xs p s (sym (filter-skip (at p s) x xs is) ∙ e) ∙ undo_one_off f x p s is)
    (cases_Bool (at p s x))

-- a transaction's records at a place are linked where no other one listed has a record there
pub member-linked : (img : Storage) (t : TxnId) (p s : ℕ) (f : ℕ → ℕ → Val) (ts : List TxnId) → EachFound f (stacks_of img ts)
    → Member t ts → Each (λ u. t ≢ u → filter (at p s) (opens img u) ≡ []) ts → Linked (f p s) (filter (at p s) (opens img t))
member-linked img t p s f [] a m others = absurd m
member-linked img t p s f (u ∷ us) a m others = ⊎_elim
    (λ e. subst (λ (k : TxnId). Linked (f p s) (filter (at p s) (opens img k))) (sym e)
    (found_linked f (opens img u) (found-front f (opens img u) (stacks_of img us) a) p s))
    (λ ne. subst (λ (v : Val). Linked v (filter (at p s) (opens img t))) (undo-off f (opens img u) p s (others.0 ne))
    (member-linked img t p s (undo_all f (opens img u)) us (found-back f (opens img u) (stacks_of img us) a) (later ne m) others.1))
    (cases_txn t u)
  where
    later : t ≢ u → Member t (u ∷ us) → Member t us
    later ne (inl e) = absurd (ne e)
    later ne (inr m) = m

-- tables that agree below page 1,024
abbrev pub Agree : (ℕ → ℕ → Val) → (ℕ → ℕ → Val) → Type 0
Agree f g = (p s : ℕ) → p < 1024 → f p s ≡ g p s

agree-one : (f g : ℕ → ℕ → Val) (x : Rec) → Agree f g → Agree (undo_one f x) (undo_one g x)
agree-one f g x h p s lt = ap (cond (at p s x) x.before) (h p s lt)

pub agree-all : (f g : ℕ → ℕ → Val) (xs : List Rec) → Agree f g → Agree (undo_all f xs) (undo_all g xs)
agree-all f g [] h = h
agree-all f g (x ∷ xs) h = agree-all (undo_one f x) (undo_one g x) xs (agree-one f g x h)

pub agree-found : (f g : ℕ → ℕ → Val) (xs : List Rec) → Agree f g → Each (λ x. x.page < 1024) xs → EachFound f xs → EachFound g xs
agree-found f g [] h b a = tt
agree-found f g (x ∷ xs) h b a = (
  sym (h x.page x.slot b.0) ∙ a.0,
  agree-found (undo_one f x) (undo_one g x) xs (agree-one f g x h) b.1 a.1,
)

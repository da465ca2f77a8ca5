-- What is inside the records of each page: chains of links, each from a record to the one before it.
use Rattle.std.specs.Prelude.{◌≡◌, ℕ, suc, ◌-◌, ◌<◌, ◌==◌, if◌then◌else◌, List, [], ◌∷◌, ◌++◌, map, get_or, vec_len, vec_capacity}
use Rattle.sd_log.specs.declared.pages.Link.{Link}
use Rattle.sd_log.specs.declared.pages.PageChains.TheInside.{Inside}

-- The chain of each record, and how many records more find memory.
pub record PagesState : Type 0 where
  pub chains : List ℕ
  pub room : ℕ

abbrev pub chain_of : Link → ℕ
chain_of l = l.chain

-- a link behind records of which so many in front are gone
abbrev pub lowered : ℕ → Link → Link
lowered gone l = record { chain = l.chain; before = l.before - gone }

abbrev pub pages_view : Inside → PagesState
pages_view p = record { chains = map chain_of p.links.items; room = vec_capacity p.links - vec_len p.links }

-- one more than the last index at which this number stands, where the first item has index n; else what was found before
abbrev pub last_of : ℕ → ℕ → ℕ → List ℕ → ℕ
last_of x found n [] = found
last_of x found n (y ∷ ys) = last_of x (if y == x then suc n else found) (suc n) ys

-- each link leads to the last record of its chain before it; these chains stand before the first
abbrev pub AreLinked : List ℕ → List Link → Type 0
AreLinked done [] = Unit {0}
AreLinked done (l ∷ ls) = (l.chain < 1025) × (l.before ≡ last_of l.chain 0 0 done) × AreLinked (done ++ l.chain ∷ []) ls

pub record IsPages (p : Inside) : Type 0 where
  pub heads : vec_len p.last ≡ 1025
  pub head_is : (x : ℕ) → x < 1025 → get_or p.last.items x 0 ≡ last_of x 0 0 (pages_view p).chains
  pub linked : AreLinked [] p.links.items

-- Tables of 64 places and of other lengths, given place by place.
use Rattle.std.specs.Prelude.{cond, List, [], ◌∷◌, ℕ, zero, suc, ◌+◌, ltb}

-- the k values of f from i on
unfoldable pub values_from : {A : Type 0} → (ℕ → A) → ℕ → ℕ → List A
values_from f i zero = []
values_from f i (suc k) = f i ∷ values_from f (i + 1) k

-- 64 places: f at each place below n, and e at the others
unfoldable pub places : {A : Type 0} → (ℕ → A) → ℕ → A → List A
unfolding values_from
places f n e = values_from (λ i. cond (ltb i n) (f i) e) 0 64

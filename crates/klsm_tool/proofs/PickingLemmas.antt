-- The pickers of the threads, at their places.
use Rattle.std.proofs.Common.{◌≡◌, ◌<◌, ◌+◌, ◌-◌, ◌∙◌, ℕ, List, [], ◌∷◌, ◌++◌, length, length-append, length-set, slice_index_or, slice_set, ap, sym, subst, arith}
use Rattle.std.proofs.lemmas.List.{get_or_append_left, get_or-append_right, get_or-set_same, get_or-set_other}
use mathlib.Core.Logic.{dite}
use native.Mathlib.Decide.{ℕ_discrete}
use Rattle.klsm_words.specs.declared.settings.ScriptSettings.{ScriptSettings}
use Rattle.klsm_tool.specs.declared.picking.ThreadPicker.{ThreadPicker}
use Rattle.klsm_tool.specs.Picking.{ArePickers, ArePlaced, picker_of}

-- the last picker of a list
last_picker : (pickers : List ThreadPicker) (picker d : ThreadPicker) (t : ℕ) → length pickers ≡ t → slice_index_or (pickers ++ picker ∷ []) t d ≡ picker
last_picker pickers picker d t many = get_or-append_right pickers (picker ∷ []) t t d many (omega arith) ∙ ap (λ i. slice_index_or (picker ∷ []) i d) (let none : t - t ≡ 0 = omega arith in none)

-- the next thread's picker is put behind those of the threads before it
pub one_picker_more : (settings : ScriptSettings) (pickers pickers' : List ThreadPicker) (picker : ThreadPicker) (n : ℕ) → length pickers ≡ n → ((t : ℕ) (d : ThreadPicker) → t < n → slice_index_or pickers t d ≡ picker_of settings t) → pickers' ≡ pickers ++ picker ∷ [] → picker ≡ picker_of settings n
    → (length pickers' ≡ n + 1) × ((t : ℕ) (d : ThreadPicker) → t < n + 1 → slice_index_or pickers' t d ≡ picker_of settings t)
one_picker_more settings pickers pickers' picker n many each pushed is = (
  ap (λ (z : List ThreadPicker). length z) pushed ∙ (length-append pickers (picker ∷ []) ∙ ap (λ i. i + 1) many),
  λ t d below. ap (λ (z : List ThreadPicker). slice_index_or z t d) pushed ∙ dite (ℕ_discrete t n)
      (λ here. ap (λ i. slice_index_or (pickers ++ picker ∷ []) i d) here ∙ (last_picker pickers picker d n many ∙ (is ∙ ap (picker_of settings) (sym here))))
      (λ other. let before : t < n = omega (arith, below, other) in get_or_append_left pickers (picker ∷ []) d t (let within : t < length pickers = omega (arith, before, many) in within) ∙ each t d before),
)

-- those of all threads stand at their places
pub pickers_placed : (settings : ScriptSettings) (pickers : List ThreadPicker) → ArePickers settings pickers → ArePlaced pickers
pickers_placed settings pickers are t d below = ap (λ (p : ThreadPicker). p.thread) (are.each t d (omega (arith, below, are.many)))

-- and still do when one of them has picked
pub placed_after : (pickers : List ThreadPicker) (t : ℕ) (picker : ThreadPicker) → ArePlaced pickers → picker.thread ≡ t → t < length pickers → ArePlaced (slice_set pickers t picker)
placed_after pickers t picker placed own within u d below = dite (ℕ_discrete u t)
    (λ here. subst (λ i. (slice_index_or (slice_set pickers t picker) i d).thread ≡ i) (sym here) (ap (λ (p : ThreadPicker). p.thread) (get_or-set_same pickers t picker d within) ∙ own))
    (λ other. ap (λ (p : ThreadPicker). p.thread) (get_or-set_other pickers t u picker d other) ∙ placed u d (omega (arith, below, length-set pickers t picker)))

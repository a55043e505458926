-- What a rehearsal leaves in C's buffer, and what it answers.
use Rattle.std.specs.Prelude.{◌≡◌, ℕ, ◌⊎◌, List, ℤ, pos, neg_ℤ, negsuc, Ok, Err, Result}
use Rattle.terms.specs.declared.refusal.Refusal.{Refusal}
use Rattle.terms.specs.Buffers.{put_answer, put_after}
use Rattle.terms.specs.Refusals.{refusal_number}
use Rattle.rehearsal.specs.Rehearsals.{Prints}

-- -1, which is no refusal's number below zero
abbrev pub no_memory : ℤ
no_memory = negsuc 0

-- a length as it is, or the refusal's number below zero
abbrev pub answer_of : Result ℕ Refusal → ℤ
answer_of (Ok n) = pos n
answer_of (Err e) = neg_ℤ (pos (refusal_number e))

-- the length of a text that is laid into the buffer, if that has room for it; else -7
abbrev pub laid_answer : List ℕ → List ℕ → ℤ
laid_answer text out = answer_of (put_answer text out)

-- a text that may be printed is laid into the buffer, or the buffer is too short for it and stays
pub record Laid (sheet script out after : List ℕ) (answer : ℤ) : Type 0 where
  pub text : List ℕ
  pub prints : Prints sheet script text
  pub answers : answer ≡ laid_answer text out
  pub leaves : after ≡ put_after text out

-- for want of memory there is no text, and the buffer stays
pub record Unmade (out after : List ℕ) (answer : ℤ) : Type 0 where
  pub answers : answer ≡ no_memory
  pub leaves : after ≡ out

abbrev pub Rehearsing : List ℕ → List ℕ → List ℕ → List ℕ → ℤ → Type 0
Rehearsing sheet script out after answer = Laid sheet script out after answer ⊎ Unmade out after answer

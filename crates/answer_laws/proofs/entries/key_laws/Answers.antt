use Rattle.std.proofs.Common.{◌≡◌, ℕ, ◌*◌, ◌/◌, ◌%◌, ◌^◌, arith, List, get_or}
use Rattle.std.specs.Int.{w64, rotate_left}
use Rattle.std.specs.Int.RustNames.{bit_xor}
use Rattle.entry.specs.Keys.{no_byte, key_words, slot_number}
use Rattle.entry.proofs.Truths.{hit_right}
use Rattle.entry.proofs.Questions.{same_question, same_key}
use Rattle.answer_laws.proofs.entries.key_laws.Goals as goal

low_of_no_byte : (word : ℕ) → no_byte word % 2 ^ 48 ≡ word % 2 ^ 48
low_of_no_byte word = omega arith

slot_of_key : (words : List ℕ) (slots : ℕ) → slot_number (key_words words) slots ≡ slot_number words slots
slot_of_key words slots =
    let a = low_of_no_byte (get_or words 1 0) in
    let b = low_of_no_byte (get_or words 2 0) in
    λ i. bit_xor (bit_xor (get_or words 0 0) (rotate_left w64 (a i) 20)) (rotate_left w64 (b i) 40) * 0x9E3779B97F4A7C15 % 2 ^ 64 / 2 ^ 32 % slots

pub returns-clause-asked : goal.returns-clause-asked
returns-clause-asked c = same_question

pub returns-clause-slot : goal.returns-clause-slot
returns-clause-slot c = slot_of_key

pub returns-clause-same : goal.returns-clause-same
returns-clause-same c = same_key

pub returns-clause-hit : goal.returns-clause-hit
returns-clause-hit c = hit_right

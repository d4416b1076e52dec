-- The file of case c (docs/CONFORMANCE.md), of each sort: as under "The file of case c", as under "Keys", as under "The single-memory
-- board", as for a table from 128 on, as under "Knob interrupts", as for a table from 160 on, as under "Pages", and as under "Locked calibration".
use Rattle.std.specs.Prelude.{ℕ, ◌+◌, ◌-◌, ◌*◌, ◌/◌, ◌%◌, List, [], ◌∷◌, ◌==◌, nat_lt, slice_index, slice_index_or, Option}
use Rattle.word.specs.Word.{pick}
use Rattle.numbers.specs.Numbers.{number_of}
use Rattle.player.specs.Lists.{places}
use Rattle.std.specs.declared.option.Option.TheVariants.{Some, None}
use Rattle.player.specs.declared.file.Damage.{Damage}
use Rattle.player.specs.declared.file.Damage.TheVariants.{Length, Words, ProgramOffset, DataOffset}
use Rattle.player.specs.declared.file.Sort.{Sort}
use Rattle.player.specs.declared.file.Sort.TheVariants.{Any, Keys, Stores, LowPorts, Knobs, Enabling, Pages, Locks}

-- W = 1 + number(c, 0) mod 200, C = number(c, 1) mod 300; under "Keys", "The single-memory board", "Pages" and "Locked calibration" W is 32,
-- under "Knob interrupts" 136
abbrev pub any_w : ℕ → ℕ
any_w c = 1 + number_of c 0 % 200

abbrev pub W : Sort → ℕ → ℕ
W Any c = any_w c
W Keys c = 32
W Stores c = 32
W LowPorts c = any_w c
W Knobs c = 136
W Enabling c = any_w c
W Pages c = 32
W Locks c = 32

abbrev pub C : ℕ → ℕ
C c = number_of c 1 % 300

-- number(c, 2) mod 16 says what is damaged
abbrev pub damage_of : ℕ → Option Damage
damage_of c = slice_index_or (Some Length ∷ Some Words ∷ Some ProgramOffset ∷ Some DataOffset ∷ []) (number_of c 2 % 16) None

-- The file's length is 16 + 2·W + C; damage 0: it becomes number(c, 3) mod the length.
abbrev pub whole_length : Sort → ℕ → ℕ
whole_length sort c = 16 + 2 * W sort c + C c

abbrev pub length_of : Sort → ℕ → Option Damage → ℕ
length_of sort c (Some Length) = number_of c 3 % whole_length sort c
length_of sort c damage = whole_length sort c

-- Its header is W, 16, C, 16 + 2·W; damage 1: W grows by 32,768; 2: the program offset becomes 15; 3: the data offset grows by 1.
abbrev pub header : Sort → ℕ → Option Damage → List ℕ
header sort c (Some Words) = (W sort c + 32768) ∷ 16 ∷ C c ∷ (16 + 2 * W sort c) ∷ []
header sort c (Some ProgramOffset) = W sort c ∷ 15 ∷ C c ∷ (16 + 2 * W sort c) ∷ []
header sort c (Some DataOffset) = W sort c ∷ 16 ∷ C c ∷ (16 + 2 * W sort c + 1) ∷ []
header sort c damage = W sort c ∷ 16 ∷ C c ∷ (16 + 2 * W sort c) ∷ []

-- Word j of the program is made from x = number(c, 1,000 + j): where number(c, 2,000 + j) mod 16 is 0 it is x; else it is
-- (x / 4,096 mod 12) · 4,096 + x mod 4,096.
abbrev pub any_word : ℕ → ℕ → ℕ
any_word c j =
    let x = number_of c (1000 + j) in
    pick (number_of c (2000 + j) % 16 == 0) x (x / 4096 % 12 * 4096 + x % 4096)

-- Under "Keys", "The single-memory board" and "Locked calibration": word j, for j from 0 to 29, where number(c, 4,000 + j) mod 2 is 0, is the section's own; else
-- it is as above; word 30 is 32,993 and word 31 is 33,248.
abbrev pub loop_word : ℕ → ℕ → ℕ → ℕ
loop_word c j own =
    pick (nat_lt j 30) (pick (number_of c (4000 + j) % 2 == 0) own (any_word c j)) (pick (j == 30) 32993 33248)

-- under "Keys" 40,960 + 512 · (x mod 8) + (x / 8) mod 4, an IN
abbrev pub key_word : ℕ → ℕ → ℕ
key_word c j = let x = number_of c (1000 + j) in loop_word c j (40960 + 512 * (x % 8) + x / 8 % 4)

-- under "The single-memory board" 16,384 + 8,192 · (x mod 2) + 64 · ((x / 2) mod 8) + (x / 16) mod 64, an ST or STB
abbrev pub store_word : ℕ → ℕ → ℕ
store_word c j =
    let x = number_of c (1000 + j) in
    loop_word c j (16384 + 8192 * (x % 2) + 64 * (x / 2 % 8) + x / 16 % 64)

-- FIRST = number(c, 8) mod 32, LAST = FIRST + number(c, 9) mod 3
abbrev pub first_locked : ℕ → ℕ
first_locked c = number_of c 8 % 32

abbrev pub last_locked : ℕ → ℕ
last_locked c = first_locked c + number_of c 9 % 3

-- under "Locked calibration" 12,288 + 4,096 · (x mod 4) + 64 · ((x / 4) mod 8) + (FIRST + 60 + (x / 32) mod 8) mod 64, an LD, ST, LDB or STB
abbrev pub locked_word : ℕ → ℕ → ℕ
locked_word c j =
    let x = number_of c (1000 + j) in
    loop_word c j (12288 + 4096 * (x % 4) + 64 * (x / 4 % 8) + (first_locked c + 60 + x / 32 % 8) % 64)

-- For a table from 128 on: the low byte of word j is made number(c, 4,000 + j) mod 4.
abbrev pub low_port_word : ℕ → ℕ → ℕ
low_port_word c j = any_word c j / 256 * 256 + number_of c (4000 + j) % 4

-- f of an EI, DI or GETIID, for k = (x / 8) mod 4: 1 where it is 2, 3 where it is 3, else 0
abbrev pub interrupt_f : ℕ → ℕ
interrupt_f k = pick (k == 2) 1 (pick (k == 3) 3 0)

-- 49,152 + 8 · (x mod 8) + f
abbrev pub interrupt_word : ℕ → ℕ
interrupt_word x = 49152 + 8 * (x % 8) + interrupt_f (x / 8 % 4)

-- For a table from 160 on: where number(c, 4,000 + j) mod 4 is 0 word j is such a one; else it is as above.
abbrev pub enabling_word : ℕ → ℕ → ℕ
enabling_word c j = pick (number_of c (4000 + j) % 4 == 0) (interrupt_word (number_of c (1000 + j))) (any_word c j)

-- Under "Knob interrupts" so too, but words 30 and 31 are those of "Keys", and word 135 is 49,154, a RETI.
abbrev pub knob_word : ℕ → ℕ → ℕ
knob_word c j = pick (j == 30) 32993 (pick (j == 31) 33248 (pick (j == 135) 49154 (enabling_word c j)))

-- 41,216 + 512 · (x mod 8) + (x / 8) mod 256, an OUT
abbrev pub out_word : ℕ → ℕ
out_word x = 41216 + 512 * (x % 8) + x / 8 % 256

-- 8,192 + x mod 4,096, an ADDI
abbrev pub addi_word : ℕ → ℕ
addi_word x = 8192 + x % 4096

-- Under "Pages": words 30 and 31 are those of "Keys"; every other word j is, where number(c, 4,000 + j) mod 8 is 0, as above; where it is
-- 1, such an OUT; else such an ADDI.
abbrev pub page_word : ℕ → ℕ → ℕ
page_word c j =
    let k = number_of c (4000 + j) % 8 in
    let x = number_of c (1000 + j) in
    pick (nat_lt j 30) (pick (k == 0) (any_word c j) (pick (k == 1) (out_word x) (addi_word x))) (pick (j == 30) 32993 33248)

abbrev pub program_word : Sort → ℕ → ℕ → ℕ
program_word Any c j = any_word c j
program_word Keys c j = key_word c j
program_word Stores c j = store_word c j
program_word LowPorts c j = low_port_word c j
program_word Knobs c j = knob_word c j
program_word Enabling c j = enabling_word c j
program_word Pages c j = page_word c j
program_word Locks c j = locked_word c j

-- the bytes of a number under 65,536, the low one first; others are 0
abbrev pub bytes_of : ℕ → List ℕ
bytes_of x = x % 256 ∷ x / 256 ∷ []

abbrev pub byte_of : ℕ → ℕ → ℕ
byte_of x k = slice_index (bytes_of x) k

-- Byte `at` of the file: of the header, four bytes a number; byte i of the program, two a word; data byte j is number(c, 3,000 + j) mod 256.
-- The rest of the file buffer is zero.
abbrev pub file_byte : Sort → ℕ → Option Damage → ℕ → ℕ
file_byte sort c damage at =
    let i = at - 16 in
    let j = i - 2 * W sort c in
    pick (nat_lt at 16) (byte_of (slice_index (header sort c damage) (at / 4)) (at % 4))
    (pick (nat_lt i (2 * W sort c)) (byte_of (program_word sort c (i / 2)) (i % 2))
    (pick (nat_lt j (C c)) (number_of c (3000 + j) % 256) 0))

-- the file buffer of 65,537 bytes
abbrev pub file_of : Sort → ℕ → Option Damage → List ℕ
file_of sort c damage = places 65537 (file_byte sort c damage)

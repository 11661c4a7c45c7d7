-- The bytes that texts are made of, by name.
use Rattle.std.specs.Prelude.{ℕ}

-- ---- white space

abbrev pub tab : ℕ
tab = 9

abbrev pub line_feed : ℕ
line_feed = 10

abbrev pub carriage_return : ℕ
carriage_return = 13

abbrev pub space : ℕ
space = 32

-- ---- signs

-- what a text stands between
abbrev pub quote : ℕ
quote = 34

-- what a comment begins with
abbrev pub hash : ℕ
hash = 35

-- what an escape begins with
abbrev pub backslash : ℕ
backslash = 92

abbrev pub underscore : ℕ
underscore = 95

-- the last printable byte
abbrev pub tilde : ℕ
tilde = 126

-- ---- digits

abbrev pub digit_zero : ℕ
digit_zero = 48

abbrev pub digit_nine : ℕ
digit_nine = 57

-- ---- letters

abbrev pub upper_a : ℕ
upper_a = 65

abbrev pub upper_z : ℕ
upper_z = 90

abbrev pub lower_a : ℕ
lower_a = 97

abbrev pub lower_d : ℕ
lower_d = 100

abbrev pub lower_e : ℕ
lower_e = 101

abbrev pub lower_f : ℕ
lower_f = 102

abbrev pub lower_h : ℕ
lower_h = 104

abbrev pub lower_i : ℕ
lower_i = 105

abbrev pub lower_k : ℕ
lower_k = 107

abbrev pub lower_l : ℕ
lower_l = 108

abbrev pub lower_p : ℕ
lower_p = 112

abbrev pub lower_r : ℕ
lower_r = 114

abbrev pub lower_s : ℕ
lower_s = 115

abbrev pub lower_t : ℕ
lower_t = 116

abbrev pub lower_z : ℕ
lower_z = 122

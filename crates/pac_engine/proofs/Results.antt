-- What holds of an answer, by its variant.
use Rattle.std.proofs.Common.{Result, Ok, Err, IfErr, IfOk, OnErr, OnOk}

pub if-ok : {T E : Type 0} {P Q : T → Type 0} (result : Result T E) → IfOk result P → ((x : T) → P x → Q x) → IfOk result Q
if-ok (Ok x) has step = step x has
if-ok (Err e) has step = tt

pub if-ok-both : {T E : Type 0} {P Q : T → Type 0} {F : Type 0} (result : Result T E) → IfOk result P → OnOk result F → ((x : T) → P x → F → Q x) → IfOk result Q
if-ok-both (Ok x) has fact step = step x has fact
if-ok-both (Err e) has fact step = tt

pub if-err : {T E : Type 0} {P Q : E → Type 0} (result : Result T E) → IfErr result P → ((e : E) → P e → Q e) → IfErr result Q
if-err (Ok x) has step = tt
if-err (Err e) has step = step e has

pub if-err-five : {T E : Type 0} {P Q R S U V : E → Type 0} (result : Result T E) → IfErr result P → IfErr result Q → IfErr result R → IfErr result S → IfErr result U → ((e : E) → P e → Q e → R e → S e → U e → V e) → IfErr result V
if-err-five (Ok x) p q r s u step = tt
if-err-five (Err e) p q r s u step = step e p q r s u

pub on-ok : {T E : Type 0} {P Q : Type 0} (result : Result T E) → OnOk result P → (P → Q) → OnOk result Q
on-ok (Ok x) has step = step has
on-ok (Err e) has step = tt

pub if-err-both : {T E : Type 0} {P Q R : E → Type 0} (result : Result T E) → IfErr result P → IfErr result Q → ((e : E) → P e → Q e → R e) → IfErr result R
if-err-both (Ok x) p q step = tt
if-err-both (Err e) p q step = step e p q

pub if-err-all : {T E : Type 0} {P : E → Type 0} (result : Result T E) → ((e : E) → P e) → IfErr result P
if-err-all (Ok x) has = tt
if-err-all (Err e) has = has e

pub on-err-all : {T E : Type 0} {P : Type 0} (result : Result T E) → P → OnErr result P
on-err-all (Ok x) has = tt
on-err-all (Err e) has = has

-- By the list that is open: behind the first pin row the stage stays.
use Rattle.file_answer.proofs.PinLaws.{pins-stay, pins-on}
use Rattle.file_answer.proofs.pins.behind_pins.Goals as goal

pub returns-in_default : goal.returns-in_default
returns-in_default c =
    pins-stay c.args.l c.args.src.now c.args.notes.now c.args.x c.requires

pub returns-in_default-list : goal.returns-in_default-list
returns-in_default-list c =
    pins-stay c.args.l c.args.src.now c.args.notes.now c.args.x c.requires

pub pass_pins-p-requires : goal.pass_pins-p-requires
pass_pins-p-requires c = c.requires

pub returns-then-any : goal.returns-then-any
returns-then-any c =
    let a = c.args in
    let passed = c.pass_pins-p in
    pins-on a.l a.src.now a.notes.now a.x _ _ _ _ passed.new.notes passed.result c.in-InComponent.is c.in-PinRows.is c.if-any.true passed.ensures

pub returns : goal.returns
returns c =
    pins-stay c.args.l c.args.src.now c.args.notes.now c.args.x c.requires

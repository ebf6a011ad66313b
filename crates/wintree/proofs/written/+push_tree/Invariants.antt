use Rattle.std.proofs.Common.{◌≡◌, ◌++◌, ◌<◌, drop}
use Rattle.std.specs.Prelude.{string_bytes}
use Rattle.wintree.specs.Ahead.{closed_text}
use Rattle.wintree.proofs.written.+push_tree.Given as goal

abbrev pub invariant-loop-reply : goal.invariant-loop-reply
invariant-loop-reply g l = record {
  ascii : l.mark < 128;
  written : string_bytes l.written ++ closed_text l.mark (drop l.reply-index l.reply-items) ≡ string_bytes l.initial.written ++ closed_text 123 l.reply-items;
}

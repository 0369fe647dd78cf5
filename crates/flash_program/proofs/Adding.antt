-- Commands that are made step by step.
use Rattle.std.proofs.Common.{◌∙◌, ◌||◌, ap, ap₂}
use Rattle.clap.specs.Words.{AddsArg, AddsSubcommand, App, Rule, with_rule, with_subcommand}
use Rattle.clap.specs.declared.builder.arg.Arg.{Arg}
use Rattle.clap.specs.declared.builder.command.Command.{Command}
use Rattle.flash_program.specs.Program.{HasRule, TakesWords}

pub with_argument : (words : App) (rule : Rule) (old new : Command) (arg : Arg)
    → TakesWords words old → HasRule rule arg → AddsArg old arg new → TakesWords (with_rule words rule) new
with_argument words rule old new arg takes has adds = record {
  words = adds.shape has.local ∙ ap₂ with_rule takes.words has.rule;
  local = adds.globals ∙ ap₂ (λ a b. a || b) takes.local has.local;
}

pub with_command : (words below : App) (old sub new : Command)
    → TakesWords words old → TakesWords below sub → AddsSubcommand old sub new → TakesWords (with_subcommand words below.top) new
with_command words below old sub new takes takes_below adds = record {
  words = adds.shape takes_below.local ∙ ap₂ with_subcommand takes.words (ap (λ (a : App). a.top) takes_below.words);
  local = adds.globals ∙ ap₂ (λ a b. a || b) takes.local takes_below.local;
}

mod Exported
mod Held

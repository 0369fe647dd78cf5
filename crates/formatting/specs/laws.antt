pub mod SizesOf
